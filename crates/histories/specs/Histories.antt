-- Lists of calls on a setup that lives (document 02, point 8): what they leave, and question 12.
use Rattle.std.specs.Prelude.{◌≡◌, List, [], ◌∷◌, ℕ, zero, suc}
use Rattle.vertex_set.specs.Set.{Iff}
use Rattle.vertex_set.specs.Order.{Listed}
use Rattle.setup.specs.declared.Setup.{Setup}
use Rattle.setup.specs.Setup.{no_items}
use Rattle.formed.specs.WellFormed.{WellFormed}
use Rattle.living.specs.Calls.{Call, CallOf, Drawing, drawing_of, after, Redrawn}
use Rattle.sheet_format.specs.Read.{read_sheet, accepted}

-- The calls are made one after the other, each on the setup that came back from the one before, with these numbers; they lead from s to s'.
abbrev pub Ran : Setup → List Call → List ℕ → Setup → Type 0
Ran s [] [] s' = s ≡ s'
Ran s [] (n ∷ numbers) s' = ⊥
Ran s (c ∷ calls) [] s' = ⊥
Ran s (c ∷ calls) (n ∷ numbers) s' = (t : Setup) × CallOf c s (record { number = n; setup = t }) × Ran t calls numbers s'

-- The drawing that the accepted ones of these calls, those with the number 0, have left.
abbrev pub left_by : List Call → List ℕ → Drawing → Drawing
left_by [] numbers d = d
left_by (c ∷ calls) [] d = d
left_by (c ∷ calls) (zero ∷ numbers) d = left_by calls numbers (after c d)
left_by (c ∷ calls) (suc n ∷ numbers) d = left_by calls numbers d

-- Point 8's theorem: for every list of calls on a freshly read setup, refused ones among them, the setup has the drawing which the accepted calls have
-- left, and its opened set is what the held vertices open in it. So it is for every text, a refused one too.
abbrev pub OpenedAlways : Type 0
OpenedAlways = (text : List ℕ) (calls : List Call) (numbers : List ℕ) (s : Setup) → Ran (read_sheet text).setup calls numbers s
    → Redrawn (read_sheet text).setup (left_by calls numbers (drawing_of (read_sheet text).setup)) s

-- The setup of a refused text has 0 items. Every call on it is refused with 12, and so it stays as it was, with nothing opened.
abbrev pub RefusedStays : Type 0
RefusedStays = (text : List ℕ) → ((read_sheet text).number ≡ 0 → ⊥) → (calls : List Call) (numbers : List ℕ) (s : Setup)
    → Ran (read_sheet text).setup calls numbers s → (s ≡ no_items) × ((n : ℕ) → Listed numbers n → n ≡ 12)

-- Some accepted sheet and some list of calls reach the setup s.
pub record Reached (s : Setup) : Type 0 where
  pub text : List ℕ
  pub fresh : Setup
  pub reading : read_sheet text ≡ accepted fresh
  pub calls : List Call
  pub numbers : List ℕ
  pub ran : Ran fresh calls numbers s

-- Question 12: a setup is well formed, as every call tests it, exactly when an accepted sheet and a list of calls reach it.
abbrev pub Question12 : Type 0
Question12 = (s : Setup) → Iff (WellFormed s) (Reached s)
