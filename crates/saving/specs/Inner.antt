-- Inner: what is known once the questions 1 to 13 have been asked, and what is then done.
use Rattle.std.specs.Prelude.{List, ℕ, ◌≤◌, ◌<◌, length}
use Rattle.setup.specs.declared.Setup.{Setup}
use Rattle.setup.specs.Setup.{Edge}
use Rattle.sheet_format.specs.Names.{name_of}
use Rattle.report_facts.specs.Inner.Places.{HasItems}
use Rattle.sheet_format.specs.Meaning.{longest_sheet}
use Rattle.save_format.specs.Inner.{saved_text}

-- The sheet has a name for each item of the setup, edges run between items, and the text is not too long.
pub record CanSave (sheet : List ℕ) (s : Setup) : Type 0 where
  pub items : HasItems sheet s.count
  pub ends : (f v c : ℕ) → Edge s.graph f v c → (f < s.count) × (v < s.count)
  pub short : length (saved_text (name_of sheet) s) ≤ longest_sheet
