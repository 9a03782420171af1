-- `report_rows::put_pair_row` meets its contract: the row is a line of two fields.
use mathlib.Core.List.{List, [], ◌∷◌}
use mathlib.Core.Path.{refl}
use Prim.Native.Nat.{ℕ}
use native.Mathlib.Omega.{arith}
use Rattle.report_text.specs.Rows.{pair_row}
use Rattle.sheet_format.specs.Names.{name_of}
use Rattle.report_rows.proofs.Lines.{line-none, field-more, last_end}
use Rattle.report_rows.proofs.put_pair_row.Goals as goal

pub returns-clause-row_written : goal.returns-clause-row_written
unfolding pair_row
returns-clause-row_written c =
    let fields : List (List ℕ) = name_of c.args.names.sheet.now c.args.v ∷ name_of c.args.names.sheet.now c.args.w ∷ [] in
    let w = field-more fields _ 0 _ (line-none fields _) (omega arith) _ c.put_name_field.ensures in
    (last_end fields _ 1 _ w refl c.requires.room _ c.put_name_field-2.ensures).row_written
