-- `score_of` is the score.
-- Assumes nothing.
use mathlib.Core.Path.{◌≡◌, refl, sym, subst, ◌∙◌}
use mathlib.Core.Bool.{Bool}
use mathlib.Core.List.{List, [], ◌∷◌}
use mathlib.Core.Logic.{inl, inr, ⊎_elim}
use Prim.Native.Nat.{ℕ, ◌*◌, ◌≤◌, ◌<◌, min}
use native.Mathlib.Nat.{le_trans, min-le_left, min-le_right}
use native.Mathlib.Omega.{arith}
use Rattle.vertex_set.specs.Order.{Listed, sum_over}
use Rattle.vertex_set.proofs.Cases.{less-or}
use Rattle.vertex_set.proofs.Sums.{sum_bound}
use Rattle.setup.specs.Bounds.{largest}
use Rattle.setup.specs.declared.Graph.{Graph}
use Rattle.setup.specs.declared.Setup.{Setup}
use Rattle.formed.specs.WellFormed.{WellFormed}
use Rattle.bases.proofs.Formed.{points-range}
use Rattle.bases.proofs.Scores.{score-base}
use Rattle.scores.specs.Never.{never}
use Rattle.bases.specs.Score.{points_at, sum_of, Score, ScoreOver}
use Rattle.reference.specs.Bases.{base_of, least_sum, score_of}
use Rattle.reference.specs.Graphs.{GraphOf}
use Rattle.reference.proofs.Bases.{base-of, minimal-within}

-- ---- the least sum over a list

first_small : (a b : ℕ) → a < never → min a b < never
first_small a b h = omega arith

later-small : (a b : ℕ) → min a b < never → b < a → b < never
later-small a b h l = omega arith

first : (a b : ℕ) → a ≤ b → min a b ≡ a
first a b l = omega arith

second : (a b : ℕ) → b < a → min a b ≡ b
second a b l = omega arith

module _ (loss : Bool) (s : Setup) where
  pub score-over : (l : List ℕ) → ((x : ℕ) → Listed l x → sum_of loss s x < never) → ScoreOver loss s l (least_sum loss s l)
  unfolding least_sum
  score-over [] small = record { none = λ n. refl; some = λ x z. absurd z; least = λ x z. absurd z; reached = λ l. absurd (omega arith) }
  score-over (y ∷ l) small =
      let ih = score-over l (λ x m. small x (inr m)) in
      let k = small y (inl refl) in
      record {
        none = λ n. absurd (n y (inl refl));
        some = λ x m. first_small (sum_of loss s y) (least_sum loss s l) k;
        least = λ x. ⊎_elim
            (λ e. subst (λ (z : ℕ). min (sum_of loss s y) (least_sum loss s l) ≤ sum_of loss s z) (sym e) (min-le_left _ _))
            (λ m. le_trans (min-le_right (sum_of loss s y) _) (ih.least x m));
        reached = λ b. ⊎_elim
            (λ c. let r = ih.reached (later-small (sum_of loss s y) (least_sum loss s l) b c) in (r.0, inr r.1, second (sum_of loss s y) (least_sum loss s l) c ∙ r.2))
            (λ c. (y, inl refl, first (sum_of loss s y) (least_sum loss s l) c))
            (less-or (least_sum loss s l) (sum_of loss s y));
      }

-- ---- sums are small

below-never : (n : ℕ) → n ≤ 64 * largest → n < never
below-never n h = omega arith

module _ (loss : Bool) (s : Setup) (wf : WellFormed s) where
  pub sum-small : (x : ℕ) → sum_of loss s x < never
  unfolding sum_over
  sum-small x = below-never (sum_of loss s x) (sum_bound (points_at loss s) largest 64 x (λ v m. points-range loss s wf v))

  module _ (g : Graph) (target : ℕ) (h : GraphOf s g) where
    pub score-of : Score loss s g target (score_of loss s g target)
    unfolding score_of
    score-of =
        (score-base loss s g target (least_sum loss s (base_of loss s g target)) (base_of loss s g target) (base-of loss s g target wf h)
        (minimal-within loss s g target wf h)).from (score-over loss s (base_of loss s g target) (λ x m. sum-small x))
