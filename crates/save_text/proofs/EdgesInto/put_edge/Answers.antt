-- `save_text::EdgesInto::put_edge` meets its contract: the row is a line of four fields.
use mathlib.Core.Path.{refl, ◌∙◌}
use native.Mathlib.Omega.{arith}
use Rattle.sheet_format.specs.Rows.{edge_fields}
use Rattle.sheet_format.specs.Names.{name_of}
use Rattle.report_rows.proofs.Lines.{line-none, field-more, last-wrote}
use Rattle.save_text.specs.Inner.{numbered_edge}
use Rattle.save_text.proofs.Writing.{marked-number}
use Rattle.save_text.proofs.EdgesInto.put_edge.Goals as goal

pub returns : goal.returns
returns c =
    let fields = edge_fields (numbered_edge (name_of c.args.self.names.sheet.now) c.args.from c.args.self.to c.args.self.colour c.args.mark) in
    let w = field-more fields _ 0 _ (line-none fields _) (omega arith) _ c.put_name_field.ensures in
    let w = field-more fields _ 1 _ w (omega arith) _ c.put_name_field-2.ensures in
    let w = field-more fields _ 2 _ w (omega arith) _ c.put_number.ensures in
    last-wrote fields _ 3 _ w refl _ (rw (c.from.ensures ∙ marked-number c.args.mark) at c.put_number-2.ensures)
