-- Inner: the sets of a line, whatever item rows the keys are of.
use Rattle.std.specs.Prelude.{◌≡◌, Result, Ok, Err, List, [], ◌∷◌, ◌++◌, map, ℕ, ◌≤◌, leb, length}
use Rattle.written.specs.Inner.{Wrote}
use Rattle.sheet_format.specs.Rows.{ItemRow}
use Rattle.sheet_rows.specs.Inner.NameKeys.{NameKeys}
use Rattle.handin_format.specs.Sets.{set_from}
use Rattle.handin_format.specs.Entries.{most_handed}
use Rattle.handin_format.specs.Lines.{FieldAsked, ask_of, first_no_of, set_questions}
use Rattle.questions.specs.Refusals.{number}
use Rattle.handin_format.specs.declared.FieldRefusal.{FieldRefusal}
use Rattle.handin_lines.specs.Inner.Splitting.{split_from}

-- The number and the field of the first no; or 0, 0 and how many sets there are.
pub record Checked : Type 0 where
  pub number : ℕ
  pub place : ℕ
  pub count : ℕ

abbrev pub checked : Result ℕ FieldRefusal → Checked
checked (Ok n) = record { number = 0; place = 0; count = n }
checked (Err e) = record { number = number e.refusal; place = e.place; count = 0 }

-- The sets that the fields from a place on name.
unfoldable pub sets_from : List ItemRow → ℕ → List ℕ → List ℕ
sets_from items at l = map (λ x. (set_from items x).set) (split_from 32 at l)

-- The first no of the sets from a place on, and their number where there is none.
pub record ChecksSets (low high : List ℕ) (count : ℕ) (l : List ℕ) (start : ℕ) (r : Checked) : Type 0 where
  pub first : (items : List ItemRow) → NameKeys items low high count
      → first_no_of (set_questions items 4 (split_from 32 start l)) ≡ record { number = r.number; place = r.place }
  pub counted : r.number ≡ 0 → r.count ≡ length (split_from 32 start l)
  pub plain : r.number ≡ 0 → r.place ≡ 0

-- The questions of the sets, and last 7.
unfoldable pub handed_questions : List ItemRow → List (List ℕ) → List FieldAsked
handed_questions items xs = set_questions items 4 xs ++ (ask_of 7 0 (leb (length xs) most_handed) ∷ [])

-- The first no of these, and the number of the sets where there is none.
pub record ChecksHanded (low high : List ℕ) (count : ℕ) (l : List ℕ) (start : ℕ) (r : Checked) : Type 0 where
  pub first : (items : List ItemRow) → NameKeys items low high count
      → first_no_of (handed_questions items (split_from 32 start l)) ≡ record { number = r.number; place = r.place }
  pub counted : r.number ≡ 0 → r.count ≡ length (split_from 32 start l)
  pub plain : r.number ≡ 0 → r.place ≡ 0
  pub few : r.number ≡ 0 → r.count ≤ most_handed

-- The sets stand in the first places.
pub record PutsSets (low high : List ℕ) (count : ℕ) (l : List ℕ) (start r : ℕ) (entry exit : List ℕ) : Type 0 where
  pub each : (items : List ItemRow) → NameKeys items low high count → Wrote entry 0 (sets_from items start l) exit r
