-- Inner: the task that a line gives the register.
use Rattle.std.specs.Prelude.{◌≡◌, List, ℕ, ◌≤◌, length}
use Rattle.setup.specs.declared.Setup.{Setup}
use Rattle.records.specs.declared.Task.{Task}
use Rattle.records.specs.declared.Task.TheVariants as task
use Rattle.records.specs.Inner.{refused_by, Attempts}
use Rattle.register.specs.Afternoon.{RegisterCall, HandIn, Withdraw}
use Rattle.sheet_format.specs.Rows.{ItemRow, Doc, Valid, render, setup_of}
use Rattle.sheet_format.specs.Read.{read_sheet}
use Rattle.sheet_rows.specs.Inner.NameKeys.{NameKeys}
use Rattle.handin_format.specs.Entries.{most_handed}
use Rattle.handin_format.specs.Lines.{line_no, line_call}
use Rattle.handin_lines.specs.Inner.Lines.{LineFound}
use Rattle.handin_lines.specs.Inner.Splitting.{split_from}
use Rattle.handin_lines.specs.Inner.Sets.{sets_from}

-- The sets of the line have been counted.
pub record CanHandOver (l : List ℕ) (r : LineFound) : Type 0 where
  pub counted : r.count ≡ length (split_from 32 r.start l)
  pub few : r.count ≤ most_handed

-- The sets that the line names are handed in, whatever item rows the keys are of.
pub record HandsOver (low high : List ℕ) (count : ℕ) (s : Setup) (l : List ℕ) (r : LineFound) (t : Task) : Type 0 where
  pub each : (items : List ItemRow) → NameKeys items low high count → Attempts s r.student r.target r.loss (sets_from items r.start l) t

-- The task of a call of the register.
abbrev pub TaskFor : Setup → RegisterCall → Task → Type 0
TaskFor s (HandIn x) t = Attempts s x.student x.target x.loss x.handed t
TaskFor s (Withdraw k) t = t ≡ task.Withdraw k

-- The task of a line: to refuse with the sheet's number, or with the line's; else that of the call which it says.
pub record TaskOfLine (sheet line : List ℕ) (t : Task) : Type 0 where
  pub no_sheet : ((read_sheet sheet).number ≡ 0 → ⊥) → refused_by t ≡ (read_sheet sheet).number
  pub no_line : (d : Doc) → Valid d → sheet ≡ render d → ((line_no d.items line).number ≡ 0 → ⊥) → refused_by t ≡ (line_no d.items line).number
  pub says : (d : Doc) → Valid d → sheet ≡ render d → (line_no d.items line).number ≡ 0 → TaskFor (setup_of d) (line_call d.items line) t
