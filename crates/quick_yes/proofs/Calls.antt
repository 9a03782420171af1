-- Where the way in ends, told as yes or no.
-- Assumes nothing.
use mathlib.Core.Path.{◌≡◌, refl, sym, subst}
use mathlib.Core.Bool.{Bool, true, false}
use mathlib.Core.List.{[]}
use Prim.Native.Nat.{ℕ}
use Rattle.std.specs.Prelude.{Option, None, Some, is_some}
use Rattle.setup.specs.declared.Setup.{Setup}
use Rattle.ways.specs.Inner.{WayFollowed}
use Rattle.questions.specs.Contract.{gives, ends, Answers}
use Rattle.questions.proofs.Contract.{given}
use Rattle.quick_yes.specs.Answers.{quick_values, quick_call}

pub quick-given : (s : Setup) (target set : ℕ) (steps : Option ℕ) (held : ℕ) (told : Bool) → WayFollowed s.graph target set steps held → told ≡ is_some steps
    → Answers (quick_call s target set) (ends (gives (quick_values told held)) [])
quick-given s target set steps held told w e =
    subst (λ (b : Bool). Answers (quick_call s target set) (ends (gives (quick_values b held)) [])) (sym e) (by steps w)
  where
    by : (steps : Option ℕ) → WayFollowed s.graph target set steps held
        → Answers (quick_call s target set) (ends (gives (quick_values (is_some steps) held)) [])
    by None n = given (quick_call s target set) (record { opens = false; held = held }) (n.0, n.1) tt _ refl
    by (Some count) y =
        given (quick_call s target set) (record { opens = true; held = held }) (record { steps = y.0; way = y.1; each = y.3 }) tt _ refl
