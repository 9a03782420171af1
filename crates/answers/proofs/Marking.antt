-- The five counts: those of the marks, and the missing sets.
-- Assumes nothing.
use mathlib.Core.Path.{◌≡◌, ap, ◌∙◌}
use mathlib.Core.Bool.{Bool}
use mathlib.Core.List.{List}
use Prim.Native.Nat.{ℕ, ◌-◌, ◌^◌, ◌<◌}
use Rattle.setup.specs.declared.Setup.{Setup}
use Rattle.setup.specs.Setup.{ChosenSet}
use Rattle.bases.specs.Inner.Readers.{BothFamilies}
use Rattle.marking.specs.Inner.Marking.{MarkedAll}
use Rattle.answers.specs.Inner.{MarksTaken}
use Rattle.answers.specs.declared.Marks.{Marks}

-- the five counts, with the missing ones
pub counted-marks : (loss : Bool) (s : Setup) (target chosen : ℕ) (family minimal handed : List ℕ) (n : ℕ) (m : Marks) → chosen < 2 ^ 64 → ChosenSet loss s chosen
    → BothFamilies loss s s.graph target chosen family minimal n → MarkedAll chosen family minimal handed m.right m.repeated m.shut m.loose
    → m.missing ≡ n - m.right → MarksTaken loss s target handed m
counted-marks loss s target chosen family minimal handed n m fits ch f h e =
    let k = h.each loss s s.graph target (record { fits = fits; few = f.base.few; is_chosen = ch; is_family = f.is_family; is_minimal = f.is_minimal }) in
    record {
      counts = record {
        marks = k.0;
        marked = k.1;
        base = f.base.base;
        is_base = f.base.is_base;
        is_right = k.2;
        is_repeated = k.3;
        is_shut = k.4;
        is_loose = k.5;
        is_missing = e ∙ ap (λ (x : ℕ). x - m.right) f.base.counted;
      };
    }
