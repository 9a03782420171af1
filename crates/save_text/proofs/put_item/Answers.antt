-- `save_text::put_item` meets its contract: the row is a line of five fields.
use mathlib.Core.Path.{refl}
use native.Mathlib.Omega.{arith}
use Rattle.sheet_format.specs.Rows.{item_fields}
use Rattle.sheet_format.specs.Names.{name_of}
use Rattle.save_format.specs.Inner.{item_row}
use Rattle.report_rows.proofs.Lines.{line-none, field-more, last-wrote}
use Rattle.save_text.proofs.put_item.Goals as goal

pub returns : goal.returns
returns c =
    let fields = item_fields (item_row (name_of c.args.names.sheet.now c.args.item) c.args.x) in
    let w = field-more fields _ 0 _ (line-none fields _) (omega arith) _ c.put_name_field.ensures in
    let w = field-more fields _ 1 _ w (omega arith) _ c.put_kind.ensures in
    let w = field-more fields _ 2 _ w (omega arith) _ c.put_value.ensures in
    let w = field-more fields _ 3 _ w (omega arith) _ c.put_value-2.ensures in
    last-wrote fields _ 4 _ w refl _ c.put_number.ensures
