-- `report_rows::SetRow::put` meets its contract: the row is a line of five fields.
use lib.Count.{ones}
use mathlib.Core.List.{List, [], ◌∷◌}
use mathlib.Core.Path.{refl}
use Prim.Native.Nat.{ℕ}
use native.Mathlib.Omega.{arith}
use Rattle.sheet_format.specs.Names.{name_of}
use Rattle.report_rows.proofs.Lines.{line-none, field-more, last_end}
use Rattle.sheet_format.specs.Fields.{decimal}
use Rattle.report_text.specs.Rows.{way_text, set_text, set_row}
use Rattle.report_rows.proofs.SetRow.put.Goals as goal

pub returns-clause-row_written : goal.returns-clause-row_written
unfolding set_row
returns-clause-row_written c =
    let fields : List (List ℕ) = name_of c.args.names.sheet.now c.args.self.target ∷ way_text c.args.self.loss ∷ decimal (ones c.args.self.set) ∷ decimal c.args.self.sum ∷ set_text (name_of c.args.names.sheet.now) c.args.self.set ∷ [] in
    let w = field-more fields _ 0 _ (line-none fields _) (omega arith) _ c.put_name_field.ensures in
    let w = field-more fields _ 1 _ w (omega arith) _ c.put_way.ensures in
    let w = field-more fields _ 2 _ w (omega arith) _ c.put_number.ensures in
    let w = field-more fields _ 3 _ w (omega arith) _ c.put_number-2.ensures in
    (last_end fields _ 4 _ w refl c.requires.room _ c.put_set_field.ensures).row_written
