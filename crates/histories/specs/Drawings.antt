-- A sheet is read, the setup redrawn by any list of calls, saved under the sheet's names, and read again.
use Rattle.std.specs.Prelude.{◌≡◌, List, [], ◌∷◌, ◌⊎◌, ℕ, take}
use Rattle.setup.specs.declared.Setup.{Setup}
use Rattle.questions.specs.Told.{Told}
use Rattle.living.specs.Calls.{Call, Drawing, drawing_of, Redrawn}
use Rattle.sheet_format.specs.Read.{read_sheet, accepted}
use Rattle.save_format.specs.Rows.{unheld}
use Rattle.save_format.specs.Call.{save_call}
use Rattle.histories.specs.Histories.{Ran, left_by}

-- The drawing with nothing held.
abbrev pub let_go : Drawing → Drawing
let_go d = record { Edges = d.Edges; Marks = d.Marks; Held = λ v. ⊥ }

-- What saving the setup s tells, which calls from a freshly read setup have left with the drawing d: a number and a size, and the buffer as it then is.
pub record SavedDrawing (fresh : Setup) (d : Drawing) (s : Setup) (number size : ℕ) (exit : List ℕ) : Type 0 where
  -- nothing but too short a buffer refuses it
  pub saves : (number ≡ 0) ⊎ (number ≡ 15)
  -- what is written is read as the setup with nothing held, which has the fresh one's items and that drawing
  pub reads : number ≡ 0 → read_sheet (take size exit) ≡ accepted (unheld s)
  pub redrawn : number ≡ 0 → Redrawn fresh (let_go d) (read_sheet (take size exit)).setup

-- For every accepted sheet and every list of calls on its setup, refused ones among them: the drawing that the accepted calls have left is what is saved.
abbrev pub DrawingSaved : Type 0
DrawingSaved = (sheet : List ℕ) → (read_sheet sheet).number ≡ 0 → (calls : List Call) (numbers : List ℕ) (s : Setup) → Ran (read_sheet sheet).setup calls numbers s
    → (number size : ℕ) (entry exit : List ℕ) → Told (save_call sheet s entry) number (size ∷ []) (exit ∷ [])
    → SavedDrawing (read_sheet sheet).setup (left_by calls numbers (drawing_of (read_sheet sheet).setup)) s number size exit
