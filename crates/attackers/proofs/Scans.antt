-- Scans from 0 on: the set of the numbers that have a property, taken in one by one; that none so far has it.
-- Assumes nothing.
use mathlib.Core.Path.{subst}
use mathlib.Core.Logic.{◌⊎◌, ⊎_elim}
use Prim.Native.Nat.{ℕ, zero, suc, ◌+◌, ◌*◌, ◌%◌, ◌^◌, ◌≤◌, ◌<◌}
use native.Mathlib.Numerals.{add-one}
use native.Mathlib.Omega.{arith}
use lib.Bits.{bit_or}
use Rattle.vertex_set.specs.Inner.{TakenBelow}
use Rattle.vertex_set.proofs.Cases.{same_or}
use Rattle.vertex_set.proofs.Sets.{inserted_new}
use Rattle.vertex_set.proofs.Taking.{taken_none, taken_more, taken-same}

module _ (P : ℕ → Type 0) where
  -- where the property can be decided, there is such a set
  pub taken-below : ((v : ℕ) → P v ⊎ (P v → ⊥)) → (n : ℕ) → n ≤ 64 → (r : ℕ) × TakenBelow P n r
  taken-below dec zero l = (0, taken_none P)
  taken-below dec (suc n) l =
      let b = taken-below dec n (omega arith) in
      ⊎_elim
      (λ p.
      let r : ℕ = bit_or b.0 ((1 * 2 ^ n) % 2 ^ 64) in
      (r, subst (λ (m : ℕ). TakenBelow P m r) (add-one n) (taken_more P n b.0 b.1 r (omega arith) p (inserted_new b.0 n (omega arith)))))
      (λ p. (b.0, subst (λ (m : ℕ). TakenBelow P m b.0) (add-one n) (taken-same P n b.0 b.1 p)))
      (dec n)

  -- none below v has the property, and v has not
  pub none_more : (v : ℕ) → ((i : ℕ) → i < v → P i → ⊥) → (P v → ⊥) → (i : ℕ) → i < v + 1 → P i → ⊥
  none_more v none n i l p = ⊎_elim (λ e. n (subst P e p)) (λ d. none i (omega (arith, d)) p) (same_or i v)
