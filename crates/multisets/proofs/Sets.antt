-- The values of a set's vertices: how many there are, how many at a threshold, and that a subset has at most those of the set.
-- Assumes nothing.
use mathlib.Core.Path.{◌≡◌, refl, ap, ◌∙◌}
use Prim.Native.Nat.{ℕ, zero, suc, ◌%◌, ◌^◌, ◌<◌}
use native.Mathlib.Omega.{arith}
use lib.Count.{ones, ones-le}
use lib.Dec.{eqb}
use lib.ListN.{length}
use Rattle.vertex_set.specs.Set.{Within}
use Rattle.vertex_set.specs.Order.{sum_below, sum_over}
use Rattle.vertex_set.proofs.Cases.{by_test}
use Rattle.vertex_set.proofs.Decisions.{decide-eqb}
use Rattle.vertex_set.proofs.Digits.{digit, digit_lt}
use Rattle.vertex_set.proofs.Sets.{ones-below-more}
use Rattle.vertex_set.proofs.Sums.{sum-over-within}
use Rattle.multisets.specs.Multisets.{Pairing, values_below, values_over}
use Rattle.multisets.specs.Meaning.{is_high, at_least}
use Rattle.multisets.proofs.Pairs.{fewer-pairing}

module _ (value : ℕ → ℕ) (s : ℕ) where
  -- a threshold's count is a sum over the set
  pub at-least-below : (t n : ℕ) → at_least (values_below value s n) t ≡ sum_below (λ (v : ℕ). is_high t (value v)) s n
  at-least-below t zero = refl
  at-least-below t (suc n) =
      let h = at-least-below t n in
      by_test (eqb (digit s n) 1)
      (λ e. let d = (decide-eqb (digit s n) 1).yes e in rw (e, d) (omega arith))
      (λ e. let q = (decide-eqb (digit s n) 1).no e in let l = digit_lt s n in let d : digit s n ≡ 0 = omega (arith, q) in rw (e, d) (omega arith))

  pub length-values : (n : ℕ) → length (values_below value s n) ≡ ones (s % 2 ^ n)
  length-values zero = let l : s % 2 ^ 0 < 2 ^ 0 = omega arith in let h = ones-le 0 (s % 2 ^ 0) l in omega arith
  length-values (suc n) =
      let h = length-values n in
      let o = ones-below-more s n in
      by_test (eqb (digit s n) 1)
      (λ e. let d = (decide-eqb (digit s n) 1).yes e in rw e (omega arith))
      (λ e. let q = (decide-eqb (digit s n) 1).no e in let l = digit_lt s n in rw e (omega (arith, q)))

pub at-least-over : (value : ℕ → ℕ) (s t : ℕ) → at_least (values_over value s) t ≡ sum_over (λ (v : ℕ). is_high t (value v)) s
unfolding values_over sum_over
at-least-over value s t = at-least-below value s t 64

pub length_over : (value : ℕ → ℕ) (s : ℕ) → s < 2 ^ 64 → length (values_over value s) ≡ ones s
unfolding values_over
length_over value s h = length-values value s 64 ∙ ap ones (let e : s % 2 ^ 64 ≡ s = omega arith in e)

-- a subset has at most the values of the set
pub values-within : (value : ℕ → ℕ) (a b : ℕ) → Within a b → Pairing (values_over value a) (values_over value b)
values-within value a b w =
    fewer-pairing (values_over value a) (values_over value b)
    (λ t.
    let p = at-least-over value a t in
    let q = at-least-over value b t in
    let m = sum-over-within (λ (v : ℕ). is_high t (value v)) a b w in omega arith)
