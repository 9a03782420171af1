-- `report_rows::ScoreRow::put` meets its contract: the row is a line of five fields.
use mathlib.Core.List.{List, [], ◌∷◌}
use mathlib.Core.Path.{refl}
use Prim.Native.Nat.{ℕ}
use native.Mathlib.Omega.{arith}
use Rattle.sheet_format.specs.Names.{name_of}
use Rattle.report_rows.proofs.Lines.{line-none, field-more, last_end}
use Rattle.report_text.specs.Rows.{score_text, answer_text, score_row}
use Rattle.report_rows.proofs.ScoreRow.put.Goals as goal

pub returns-clause-row_written : goal.returns-clause-row_written
unfolding score_row
returns-clause-row_written c =
    let fields : List (List ℕ) = name_of c.args.names.sheet.now c.args.self.target ∷ score_text c.args.self.score ∷ score_text c.args.self.risk ∷ answer_text c.args.self.back ∷ answer_text c.args.self.idle ∷ [] in
    let w = field-more fields _ 0 _ (line-none fields _) (omega arith) _ c.put_name_field.ensures in
    let w = field-more fields _ 1 _ w (omega arith) _ c.put_score.ensures in
    let w = field-more fields _ 2 _ w (omega arith) _ c.put_score-2.ensures in
    let w = field-more fields _ 3 _ w (omega arith) _ c.put_answer.ensures in
    (last_end fields _ 4 _ w refl c.requires.room _ c.put_answer-2.ensures).row_written
