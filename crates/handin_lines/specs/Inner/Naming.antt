-- Inner: what the readers of names and sets answer, whatever item rows the keys are of.
use Rattle.std.specs.Prelude.{◌≡◌, Result, Ok, Err, IfOk, List, cond, ℕ, ◌<◌}
use Rattle.questions.specs.declared.Refusal.{Refusal}
use Rattle.questions.specs.declared.Refusal.TheVariants.{Form, NameUnknown}
use Rattle.questions.specs.Refusals.{number}
use Rattle.sheet_format.specs.Fields.{is_name}
use Rattle.sheet_format.specs.Rows.{ItemRow, number_in}
use Rattle.sheet_format.specs.Questions.{is_known}
use Rattle.sheet_rows.specs.Inner.NameKeys.{NameKeys}
use Rattle.handin_format.specs.Sets.{SetField, no_set, some_set, with_name, set_from}

-- The item of the name n. 5: is it a name? 8: is it known?
unfoldable pub item_from : List ItemRow → List ℕ → Result ℕ Refusal
item_from items n = cond (is_name n) (cond (is_known items n) (Ok (number_in items n)) (Err NameUnknown)) (Err Form)

-- The number of a no, or of an item.
pub record ItemField : Type 0 where
  pub number : ℕ
  pub item : ℕ

abbrev pub item_field : Result ℕ Refusal → ItemField
item_field (Ok item) = record { number = 0; item = item }
item_field (Err q) = record { number = number q; item = 0 }

pub record NamesItem (low high : List ℕ) (count : ℕ) (l : List ℕ) (r : Result ℕ Refusal) : Type 0 where
  pub each : (items : List ItemRow) → NameKeys items low high count → r ≡ item_from items l
  pub inside : IfOk r (λ item. item < count)

-- A set that was read, or the number of the no.
abbrev pub set_field : Result ℕ Refusal → SetField
set_field (Ok x) = some_set x
set_field (Err q) = no_set (number q)

pub record TakesName (low high : List ℕ) (count x : ℕ) (l : List ℕ) (r : SetField) : Type 0 where
  pub each : (items : List ItemRow) → NameKeys items low high count → r ≡ with_name items x l

pub record ReadsNames (low high : List ℕ) (count : ℕ) (l : List ℕ) (r : SetField) : Type 0 where
  pub each : (items : List ItemRow) → NameKeys items low high count → r ≡ set_from items l
