-- An afternoon of lines: each is taken to the register of one sheet, slice and count handed on as they came back, and
-- what the register then holds.
use Rattle.std.specs.Prelude.{cond, List, [], ◌∷◌, ℕ, eqb}
use Rattle.sheet_format.specs.Rows.{ItemRow, Doc, Valid, render, setup_of}
use Rattle.records.specs.declared.Record.{Record}
use Rattle.records.specs.declared.Registered.{Registered}
use Rattle.register.specs.Afternoon.{Made, RegisterAfter}
use Rattle.handin_format.specs.Lines.{line_no, line_call}
use Rattle.handin_format.specs.Calls.{EnterCall}

-- A line that was entered: what was answered, and the slice that it left.
pub record EnteredLine : Type 0 where
  pub line : List ℕ
  pub answer : Registered
  pub exit : List Record

-- The slice after these lines, of which the latest stands first: as that line left it. At the beginning it is the lent
-- one, whatever stands there.
abbrev pub slice_after_lines : List Record → List EnteredLine → List Record
slice_after_lines slice [] = slice
slice_after_lines slice (m ∷ earlier) = m.exit

-- How many records are used after these lines, as the latest one was answered: at the beginning none.
abbrev pub used_after_lines : List EnteredLine → ℕ
used_after_lines [] = 0
used_after_lines (m ∷ earlier) = m.answer.used

-- Slice and count are handed on as they came back, and each line meets the call's contract.
abbrev pub LinesEntered : List ℕ → List Record → List EnteredLine → Type 0
LinesEntered sheet slice [] = Unit {0}
LinesEntered sheet slice (m ∷ earlier) =
    EnterCall sheet m.line (used_after_lines earlier) m.answer (slice_after_lines slice earlier) m.exit
    × LinesEntered sheet slice earlier

-- The register's call that a line made.
abbrev pub made_by : List ItemRow → EnteredLine → Made
made_by items m = record { call = line_call items m.line; answer = m.answer; exit = m.exit }

-- The calls that the lines made: a line that can't be read makes none.
unfoldable pub calls_made : List ItemRow → List EnteredLine → List Made
calls_made items [] = []
calls_made items (m ∷ earlier) =
    cond (eqb (line_no items m.line).number 0) (made_by items m ∷ calls_made items earlier) (calls_made items earlier)

-- For every list of lines over one accepted sheet from an empty register, refused ones among them, slice and count
-- handed on as they came back: the used records, as many as the count says, are those that the register must hold after
-- the calls that the lines say. A line that can't be read counts for nothing.
abbrev pub LinesLaw : Type 0
LinesLaw =
    (d : Doc) → Valid d → (slice : List Record) (log : List EnteredLine) → LinesEntered (render d) slice log
    → RegisterAfter (setup_of d) (calls_made d.items log) (used_after_lines log) (slice_after_lines slice log)
