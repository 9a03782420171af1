-- Question 17, over the set of the initial vertices.
-- Assumes nothing.
use mathlib.Core.Bool.{false}
use mathlib.Core.List.{List}
use Prim.Native.Nat.{ℕ}
use Rattle.vertex_set.specs.Set.{Iff}
use Rattle.setup.specs.declared.Setup.{Setup}
use Rattle.setup.specs.Setup.{ChosenSet}
use Rattle.attackers.specs.Attackers.{EntriesFit}
use Rattle.attackers.specs.Inner.{FitOver}

pub fit-iff : (s : Setup) (kinds : List ℕ) (initial : ℕ) → ChosenSet false s initial → Iff (FitOver kinds initial) (EntriesFit s kinds)
fit-iff s kinds initial c =
    record {
      to = λ f. record { each = λ v h. f.each v ((c.each v).from h) };
      from = λ f. record { each = λ v m. f.each v ((c.each v).to m) };
    }
