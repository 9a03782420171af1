-- Where a report begins, and that what is written from there on, call by call, is the whole of it.
use Rattle.std.specs.Prelude.{◌≡◌, List, [], ◌∷◌, ◌++◌, ℕ, ◌^◌, length, take}
use Rattle.setup.specs.Bounds.{most_chosen}
use Rattle.sheet_format.specs.Read.{read_sheet}
use Rattle.sheet_format.specs.Names.{name_of}
use Rattle.report_text.specs.Report.{report_of}
use Rattle.report_facts.specs.declared.Facts.{Facts}
use Rattle.report_writer.specs.declared.steps.Cursor.{Cursor}
use Rattle.report_writer.specs.declared.steps.Cursor.TheVariants as cursor
use Rattle.report_writer.specs.Rest.{rest_of}
use Rattle.report_writer.specs.declared.steps.Step.{Step}
use Rattle.report_writer.specs.Inner.Steps.{KnownAt, StepTaken}
use Rattle.report_writer.specs.declared.start.Report.{Report}

-- At the first place the whole report of the sheet is left, whatever the list for a target's sets holds, which has room for any. A refused sheet leaves the two lent
-- tables as they were; an accepted one leaves the tables of bases there, which are part of what is known at that place.
pub record Begun (sheet : List ℕ) (r : Report) (opening₀ lockout₀ opening lockout : List ℕ) : Type 0 where
  pub kept : ((read_sheet sheet).number ≡ 0 → ⊥) → (opening ≡ opening₀) × (lockout ≡ lockout₀)
  pub whole : rest_of (name_of sheet) (read_sheet sheet).setup r.cursor ≡ report_of sheet
  pub here : (list : List ℕ) → length list ≡ 2 ^ most_chosen → KnownAt sheet (read_sheet sheet).setup r.facts opening lockout list r.cursor

-- A call of `fill`, made from the place c on: it met its contract, left the bytes p in front of the lent buffer, and goes on at d with the list list'.
pub record Filled (sheet : List ℕ) (f : Facts) (opening lockout list : List ℕ) (c : Cursor) (p list' : List ℕ) (d : Cursor) : Type 0 where
  pub entry : List ℕ
  pub exit : List ℕ
  pub step : Step
  pub taken : StepTaken sheet f opening lockout list c entry 0 list' exit step
  pub bytes : p ≡ take step.at exit
  pub goes_on : step.cursor ≡ d

-- Such calls one after the other up to the end, each with the facts, the tables and the list that the one before left; whatever buffer each is lent.
abbrev pub Fills : List ℕ → Facts → List ℕ → List ℕ → List ℕ → Cursor → List (List ℕ) → Type 0
Fills sheet f opening lockout list c [] = c ≡ cursor.End
Fills sheet f opening lockout list c (p ∷ ps) =
    (list' : List ℕ) × (d : Cursor) × Filled sheet f opening lockout list c p list' d × Fills sheet f opening lockout list' d ps

-- Texts one after the other.
abbrev pub in_one : List (List ℕ) → List ℕ
in_one [] = []
in_one (p ∷ ps) = p ++ in_one ps

-- From `begin`, with a list that has the room: the bytes that any calls of `fill` up to the end leave, one after the other, are the report's text, all of it
-- and nothing else.
abbrev pub WholeReport : Type 0
WholeReport = (sheet : List ℕ) (r : Report) (opening₀ lockout₀ opening lockout list : List ℕ) → Begun sheet r opening₀ lockout₀ opening lockout
    → length list ≡ 2 ^ most_chosen → (parts : List (List ℕ)) → Fills sheet r.facts opening lockout list r.cursor parts → in_one parts ≡ report_of sheet
