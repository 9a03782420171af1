-- What the reader of all item rows answers.
use Rattle.std.specs.Prelude.{◌≡◌, Result, Ok, Err, List, [], ℕ, ◌+◌, ◌≤◌, drop}
use Rattle.questions.specs.Refusals.{number}
use Rattle.sheet_format.specs.declared.SheetRefusal.{SheetRefusal}
use Rattle.sheet_format.specs.Text.{lines_of}
use Rattle.sheet_format.specs.Rows.{ItemRow, vertices_of}
use Rattle.sheet_format.specs.Read.{AmongItems, AtSecondHeader, no_rows, refused, read_lines}
use Rattle.sheet_rows.specs.Inner.NameKeys.{NameKeys}
use Rattle.sheet_items.specs.declared.Items.{Items}

-- The item rows up to the empty line, from `start` on, where line 2 begins.
pub record ItemsTaken (s : List ℕ) (start : ℕ) (r : Items) : Type 0 where
  pub items : List ItemRow
  pub table : NameKeys items r.keys.low r.keys.high r.keys.count
  pub above : r.line ≤ 66
  pub vertices : r.vertices ≡ vertices_of items
  pub reading : read_lines AmongItems no_rows 2 (lines_of (drop start s))
      ≡ read_lines AtSecondHeader (record { items = items; edges = [] }) (r.line + 1) (lines_of (drop r.at s))

-- They are taken, or the reading ends with the first no among them.
abbrev pub ReadsItems : List ℕ → ℕ → Result Items SheetRefusal → Type 0
ReadsItems s start (Ok items) = ItemsTaken s start items
ReadsItems s start (Err refusal) = read_lines AmongItems no_rows 2 (lines_of (drop start s)) ≡ refused (number refusal.refusal) refusal.line
