-- A drawing saved, of the setup that the words say.
-- Assumes nothing.
use mathlib.Core.Path.{◌≡◌, subst}
use mathlib.Core.List.{List, [], ◌∷◌}
use Prim.Native.Nat.{ℕ}
use Rattle.setup.specs.declared.Setup.{Setup}
use Rattle.questions.specs.Told.{Told}
use Rattle.save_format.specs.Call.{save_call}

pub saved-on : (sheet : List ℕ) (s t : Setup) (entry exit : List ℕ) (number size : ℕ) → s ≡ t → Told (save_call sheet s entry) number (size ∷ []) (exit ∷ [])
    → Told (save_call sheet t entry) number (size ∷ []) (exit ∷ [])
saved-on sheet s t entry exit number size e c = subst (λ (x : Setup). Told (save_call sheet x entry) number (size ∷ []) (exit ∷ [])) e c
