-- The score over all sets is the score over the base: each set with a derivation has a minimal one within it, with no larger sum.
-- Assumes nothing.
use mathlib.Core.Path.{◌≡◌}
use mathlib.Core.Bool.{Bool}
use mathlib.Core.List.{List}
use Prim.Native.Nat.{ℕ, ◌≤◌}
use native.Mathlib.Nat.{le_trans}
use native.Mathlib.Omega.{arith}
use Rattle.vertex_set.specs.Set.{Within, Iff}
use Rattle.vertex_set.specs.Order.{Listed}
use Rattle.vertex_set.proofs.Sums.{sum-over-within}
use Rattle.setup.specs.declared.Graph.{Graph}
use Rattle.setup.specs.declared.Setup.{Setup}
use Rattle.bases.specs.Base.{TargetSet, MinimalSet, Base}
use Rattle.bases.specs.Score.{points_at, sum_of, LeastOver, Score, ScoreOver}

between : (r a b : ℕ) → r ≤ a → a ≤ b → r ≡ b → r ≡ a
between r a b p q e = omega arith

-- the least sum over some sets is that over all, if each of all has one of these with no larger sum
pub least-over-some : (P Q : ℕ → Type 0) (sum : ℕ → ℕ) (r : ℕ) → ((x : ℕ) → Q x → P x) → ((x : ℕ) → P x → (y : ℕ) × Q y × (sum y ≤ sum x))
    → Iff (LeastOver P sum r) (LeastOver Q sum r)
least-over-some P Q sum r among under =
    record {
      to = λ h. record {
        none = λ n. h.none (λ x p. let y = under x p in n y.0 y.1);
        some = λ x q. h.some x (among x q);
        least = λ x q. h.least x (among x q);
        reached = λ k.
            let p = h.reached k in
            let y = under p.0 p.1 in
            (y.0, y.1, between r (sum y.0) (sum p.0) (h.least y.0 (among y.0 y.1)) y.2 p.2);
      };
      from = λ h. record {
        none = λ n. h.none (λ x q. n x (among x q));
        some = λ x p. let y = under x p in h.some y.0 y.1;
        least = λ x p. let y = under x p in le_trans (h.least y.0 y.1) y.2;
        reached = λ k. let q = h.reached k in (q.0, among q.0 q.1, q.2);
      };
    }

-- the score over all sets and over the base, if every set of the target has a minimal one within it
pub score-base : (loss : Bool) (s : Setup) (g : Graph) (target r : ℕ) (l : List ℕ) → Base loss s g target l
    → ((x : ℕ) → TargetSet loss s g target x → (y : ℕ) × Within y x × MinimalSet loss s g target y) → Iff (Score loss s g target r) (ScoreOver loss s l r)
score-base loss s g target r l b under =
    least-over-some (TargetSet loss s g target) (Listed l) (sum_of loss s) r (λ x i. (b.sound x i).is)
    (λ x t. let y = under x t in (y.0, b.whole y.0 y.2, sum-over-within (points_at loss s) y.0 x y.1))
