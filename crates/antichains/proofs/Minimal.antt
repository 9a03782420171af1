-- Lists of minimal sets are antichains.
-- Assumes nothing.
use mathlib.Core.List.{List}
use mathlib.Core.Logic.{⊎_elim}
use Prim.Native.Nat.{ℕ}
use Rattle.vertex_set.specs.Set.{ProperlyWithin}
use Rattle.vertex_set.specs.Order.{Listed, Ordered}
use Rattle.vertex_set.proofs.Cases.{same_or}
use Rattle.vertex_set.proofs.Lists.{ordered-once}
use Rattle.antichains.specs.Antichains.{Antichain}

-- P holds of each set of the list, and of no proper subset of one
pub minimal-antichain : (P : ℕ → Type 0) (l : List ℕ) → Ordered l → ((x : ℕ) → Listed l x → P x)
    → ((x y : ℕ) → Listed l y → ProperlyWithin x y → P x → ⊥) → Antichain l
minimal-antichain P l o all none =
    record {
      once = ordered-once l o;
      apart = λ x y p q w. ⊎_elim (λ e. e) (λ n. absurd (none x y q (record { within = w; other = n }) (all x p))) (same_or x y);
    }
