-- What saving means. Statements only; proofs/Meaning.antt has the theorems.
use Rattle.std.specs.Prelude.{◌≡◌, List, [], ◌∷◌, ℕ, ◌≤◌, ◌<◌, length, take}
use Rattle.setup.specs.declared.Setup.{Setup}
use Rattle.formed.specs.WellFormed.{WellFormed}
use Rattle.questions.specs.Told.{Told}
use Rattle.sheet_format.specs.Rows.{Doc, render}
use Rattle.sheet_format.specs.Read.{read_sheet, accepted}
use Rattle.sheet_format.specs.Names.{name_of}
use Rattle.sheet_format.specs.Meaning.{longest_sheet}
use Rattle.save_format.specs.Rows.{unheld, SavedRows}
use Rattle.save_format.specs.Call.{save_call}

-- For an accepted sheet and a well formed setup of no more items there are such rows.
abbrev pub SavedThere : Type 0
SavedThere = (sheet : List ℕ) (s : Setup) → (read_sheet sheet).number ≡ 0 → WellFormed s → s.count ≤ (read_sheet sheet).setup.count → (d : Doc) × SavedRows sheet s d

-- And but one list of them.
abbrev pub SavedUnique : Type 0
SavedUnique = (sheet : List ℕ) (s : Setup) (d e : Doc) → SavedRows sheet s d → SavedRows sheet s e → d ≡ e

-- t is a sheet of the setup s: reading it yields s with nothing held, and its items have the names of the first sheet's.
pub record IsSheetOf (sheet : List ℕ) (s : Setup) (t : List ℕ) : Type 0 where
  pub reads : read_sheet t ≡ accepted (unheld s)
  pub names : (i : ℕ) → i < s.count → name_of t i ≡ name_of sheet i
  pub short : length t ≤ longest_sheet

-- The written form of the rows is a sheet of the setup.
abbrev pub SavedReads : Type 0
SavedReads = (sheet : List ℕ) (s : Setup) (d : Doc) → SavedRows sheet s d → IsSheetOf sheet s (render d)

-- Where the call's number is 0, the first bytes of the buffer, as many as it tells, are a sheet of the setup.
abbrev pub SavedText : Type 0
SavedText = (sheet : List ℕ) (s : Setup) (number size : ℕ) (entry exit : List ℕ) → Told (save_call sheet s entry) number (size ∷ []) (exit ∷ []) → number ≡ 0
    → IsSheetOf sheet s (take size exit)

-- What a sheet yields is saved under its own names, and reading that yields the same: saving and reading change nothing.
abbrev pub SavedBack : Type 0
SavedBack = (sheet : List ℕ) (s : Setup) (d : Doc) → read_sheet sheet ≡ accepted s → SavedRows sheet s d → read_sheet (render d) ≡ accepted s

-- Saving what was saved gives the same rows, and so the same bytes.
abbrev pub SavedAgain : Type 0
SavedAgain = (sheet : List ℕ) (s : Setup) (d : Doc) → SavedRows sheet s d → SavedRows (render d) (unheld s) d
