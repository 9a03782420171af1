-- What is left of the report at each place.
use Rattle.std.specs.Prelude.{List, [], ◌∷◌, ◌++◌, ℕ, suc, ◌-◌, ◌*◌, drop}
use Rattle.setup.specs.declared.Setup.{Setup}
use Rattle.report_text.specs.Rows.{numbers_from, texts_of, refused_row}
use Rattle.report_text.specs.Report.{score_section, pair_section, accepted_report}
use Rattle.report_facts.specs.Texts.{slot_list, slot_row, slot_text, score_at, pairs_at}
use Rattle.report_writer.specs.declared.steps.Cursor.{Cursor}
use Rattle.report_writer.specs.declared.steps.Cursor.TheVariants as cursor

-- The texts of the numbers from k on that are below n.
unfoldable pub texts_from : (ℕ → List ℕ) → ℕ → ℕ → List ℕ
texts_from text n k = texts_of text (numbers_from k (n - k))

-- The rows of the pairs from vertex v on: the end of the report.
unfoldable pub pairs_from : (ℕ → List ℕ) → Setup → ℕ → List ℕ
pairs_from name s v = texts_from (pairs_at name s) s.count v

-- The score rows from vertex v on, and all that follows them.
unfoldable pub scores_from : (ℕ → List ℕ) → Setup → ℕ → List ℕ
scores_from name s v = texts_from (score_at name s) s.count v ++ (10 ∷ pair_section name s)

-- The rows of the lists from list k on, and all that follows them.
unfoldable pub lists_from : (ℕ → List ℕ) → Setup → ℕ → List ℕ
lists_from name s k = texts_from (slot_text name s) (2 * s.count) k ++ (10 ∷ (score_section name s ++ (10 ∷ pair_section name s)))

-- The rows of list k from row i on, and all that follows them.
unfoldable pub rows_from : (ℕ → List ℕ) → Setup → ℕ → ℕ → List ℕ
rows_from name s k i = texts_of (slot_row name s k) (drop i (slot_list s k)) ++ lists_from name s (suc k)

-- What is left of the report at a place.
abbrev pub rest_of : (ℕ → List ℕ) → Setup → Cursor → List ℕ
rest_of name s cursor.Start = accepted_report name s
rest_of name s (cursor.Lists k i n) = rows_from name s k i
rest_of name s (cursor.Scores v) = scores_from name s v
rest_of name s (cursor.Pairs v) = pairs_from name s v
rest_of name s (cursor.Refused number line) = refused_row number line
rest_of name s cursor.End = []
