-- What a line's record says: full marks exactly where the sets that it names are those that demand 3 states. Statements
-- only; proofs/Marks.antt has the theorems.
use Rattle.std.specs.Prelude.{◌≡◌, List, [], ◌∷◌, map, ◌⊎◌, ℕ, take}
use Rattle.vertex_set.specs.Set.{Iff}
use Rattle.vertex_set.specs.Order.{Listed}
use Rattle.bases.specs.Base.{MinimalSet}
use Rattle.bases.specs.Marks.{Full}
use Rattle.sheet_format.specs.Rows.{Doc, Each, Apart, Valid, number_in, render, setup_of}
use Rattle.records.specs.declared.Record.{Record}
use Rattle.records.specs.declared.Registered.{Registered}
use Rattle.records.specs.Records.{RecordOf, with_record, with_slice, keeps_used}
use Rattle.handin_format.specs.Sets.{set_named}
use Rattle.handin_format.specs.Entries.{NamedAttempt, HandsIn, ValidAttempt, entry_text}
use Rattle.handin_format.specs.Calls.{EnterCall}
use Rattle.handin_format.specs.Afternoon.{EnteredLine, slice_after_lines, used_after_lines, LinesEntered}

-- y is one of the sets that demand 3 states for the attempt's target and way.
abbrev pub Sought : Doc → NamedAttempt → ℕ → Type 0
Sought d x y = MinimalSet x.loss (setup_of d) (setup_of d).graph (number_in d.items x.target) y

-- The sets that the attempt names are the sought ones, each one time, and no other.
pub record NamesSought (d : Doc) (x : NamedAttempt) : Type 0 where
  pub no_other : Each (λ ns. Sought d x (set_named d.items ns)) x.sets
  pub each_one : (y : ℕ) → Sought d x y → Listed (map (set_named d.items) x.sets) y
  pub one_time : Apart (λ ms ns. set_named d.items ms ≡ set_named d.items ns) x.sets

-- r is the record of the attempt: its student, target and way, and the marks of the sets that it names. It has full
-- marks exactly where these are the sought ones.
pub record NamedRecord (d : Doc) (x : NamedAttempt) (r : Record) : Type 0 where
  pub is_record :
      RecordOf (setup_of d) x.student (number_in d.items x.target) x.loss
      (map (set_named d.items) x.sets) r
  pub full : Iff (Full r.repeated r.shut r.loose r.missing) (NamesSought d x)

-- The register has the attempt's record now: it took the place of the one with its student, target and way, or stands
-- behind the used ones.
pub record LineTaken (d : Doc) (x : NamedAttempt) (used : ℕ) (a : Registered) (entry exit : List Record) : Type 0 where
  pub row : Record
  pub is_record : NamedRecord d x row
  pub left : with_slice a exit ≡ keeps_used (with_record row (take used entry)) entry

-- Where the line of a valid attempt is entered with the number 0, the register has the attempt's record.
abbrev pub LineMarks : Type 0
LineMarks =
    (d : Doc) → Valid d → (x : NamedAttempt) → ValidAttempt d.items x
    → (used : ℕ) (a : Registered) (entry exit : List Record)
    → EnterCall (render d) (entry_text (HandsIn x)) used a entry exit → a.number ≡ 0 → LineTaken d x used a entry exit

-- One of the lines is the written form of the attempt, and was entered with the number 0.
abbrev pub HandedByLine : List EnteredLine → NamedAttempt → Type 0
HandedByLine [] x = ⊥
HandedByLine (m ∷ earlier) x = ((m.line ≡ entry_text (HandsIn x)) × (m.answer.number ≡ 0)) ⊎ HandedByLine earlier x

-- r is the record of an attempt that one of the lines handed in.
pub record RecordOfLine (d : Doc) (log : List EnteredLine) (r : Record) : Type 0 where
  pub attempt : NamedAttempt
  pub valid : ValidAttempt d.items attempt
  pub handed : HandedByLine log attempt
  pub is_record : NamedRecord d attempt r

-- After every list of lines over one accepted sheet from an empty register, each used record is that of a line. Whose
-- line it is, where a student has several, says `LinesLaw`.
abbrev pub RegisterMarks : Type 0
RegisterMarks =
    (d : Doc) → Valid d → (slice : List Record) (log : List EnteredLine) → LinesEntered (render d) slice log
    → Each (RecordOfLine d log) (take (used_after_lines log) (slice_after_lines slice log))
