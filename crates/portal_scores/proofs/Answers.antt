-- A yes or no in a field.
-- Assumes nothing.
use mathlib.Core.Path.{◌≡◌, refl}
use mathlib.Core.Bool.{Bool, true, false}
use mathlib.Core.List.{[], ◌∷◌}
use mir.Val.{bool_byte}
use Rattle.findings.specs.Answers.{yes_no}

pub yes-no : (b : Bool) → (bool_byte b ∷ []) ≡ yes_no b ∷ []
yes-no true = refl
yes-no false = refl
