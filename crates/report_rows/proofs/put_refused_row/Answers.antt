-- `report_rows::put_refused_row` meets its contract: the row is a line of three fields.
use mathlib.Core.List.{List, [], ◌∷◌}
use mathlib.Core.Path.{refl}
use Prim.Native.Nat.{ℕ}
use native.Mathlib.Omega.{arith}
use Rattle.sheet_format.specs.Fields.{decimal}
use Rattle.report_text.specs.Rows.{refused_row}
use Rattle.report_rows.proofs.Lines.{line-none, field-more, last_end}
use Rattle.report_rows.proofs.put_refused_row.Goals as goal

pub returns-clause-row_written : goal.returns-clause-row_written
unfolding refused_row
returns-clause-row_written c =
    let fields : List (List ℕ) = (114 ∷ 101 ∷ 102 ∷ 117 ∷ 115 ∷ 101 ∷ 100 ∷ []) ∷ decimal c.args.number ∷ decimal c.args.line ∷ [] in
    let w = field-more fields _ 0 _ (line-none fields _) (omega arith) _ c.put_field.ensures in
    let w = field-more fields _ 1 _ w (omega arith) _ c.put_number.ensures in
    (last_end fields _ 2 _ w refl c.requires _ c.put_number-2.ensures).row_written
