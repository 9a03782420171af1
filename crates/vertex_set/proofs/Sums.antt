-- Laws of the sum of values over a set.
-- Assumes nothing.
use mathlib.Core.Path.{◌≡◌, refl, sym, ◌∙◌, subst}
use mathlib.Core.Logic.{⊎_elim}
use Prim.Native.Nat.{ℕ, zero, suc, ◌+◌, ◌-◌, ◌*◌, ◌/◌, ◌%◌, ◌^◌, ◌≤◌, ◌<◌}
use native.Mathlib.Nat.{mod-eq_of_lt, mul-le-mul_right}
use native.Mathlib.Omega.{arith}
use lib.Pow.{mod-pow-add}
use Rattle.vertex_set.specs.Set.{Member, Within}
use Rattle.vertex_set.specs.Order.{sum_below, sum_over}
use Rattle.vertex_set.proofs.Digits.{digit, digit-first, digit-suc}
use Rattle.vertex_set.proofs.Cases.{same_or}
use Rattle.vertex_set.proofs.Sets.{member-or, not-member, none-in-zero}
use Rattle.vertex_set.proofs.Places.{removed-same, removed-other}

-- the vertex 0 first, and then the others by halves
pub sum_first : (value : ℕ → ℕ) (n s : ℕ) → sum_below value s (suc n) ≡ s % 2 * value 0 + sum_below (λ (v : ℕ). value (suc v)) (s / 2) n
sum_first value zero s = rw (digit-first s) (omega arith)
sum_first value (suc n) s = let ih = sum_first value n s in rw (digit-suc s n) (omega arith)

-- values that agree on the vertices of s have one sum
pub sum_same : (value other : ℕ → ℕ) (n s : ℕ) → ((v : ℕ) → Member s v → value v ≡ other v) → sum_below value s n ≡ sum_below other s n
unfolding Member
sum_same value other zero s h = refl
sum_same value other (suc n) s h =
    let ih = sum_same value other n s h in
    ⊎_elim (λ m. let e = h n m in rw (ih, e)) (λ o. let z = not-member s n o in rw (ih, z) (omega arith)) (member-or s n)

-- a subset has no larger sum
pub sum-within : (value : ℕ → ℕ) (n a b : ℕ) → Within a b → sum_below value a n ≤ sum_below value b n
unfolding Member
sum-within value zero a b w = omega arith
sum-within value (suc n) a b w =
    let ih = sum-within value n a b w in
    let le : digit a n ≤ digit b n = ⊎_elim (λ m. let k = w.each n m in omega arith) (λ o. let z = not-member a n o in omega arith) (member-or a n) in
    let t : digit a n * value n ≤ digit b n * value n = mul-le-mul_right (value n) le in
    omega arith

-- a bound on the values is one on the sum
pub sum_bound : (value : ℕ → ℕ) (b n s : ℕ) → ((v : ℕ) → Member s v → value v ≤ b) → sum_below value s n ≤ n * b
unfolding Member
sum_bound value b zero s h = omega arith
sum_bound value b (suc n) s h =
    let ih = sum_bound value b n s h in
    ⊎_elim (λ m. let l = h n m in rw m (omega arith)) (λ o. let z = not-member s n o in rw z (omega arith)) (member-or s n)

-- vertices at n and above do not count below n
sum-untouched : (value : ℕ → ℕ) (n s i : ℕ) → Member s i → n ≤ i → sum_below value (s - 2 ^ i) n ≡ sum_below value s n
sum-untouched value zero s i m h = refl
sum-untouched value (suc n) s i m h = rw (sum-untouched value n s i m (omega arith), removed-other i n s m (λ e. omega arith))

-- the highest vertex less
sum_top : (value : ℕ → ℕ) (n s : ℕ) → Member s n → sum_below value s (suc n) ≡ sum_below value (s - 2 ^ n) (suc n) + value n
unfolding Member
sum_top value n s m = rw (sum-untouched value n s n m (omega arith), not-member (s - 2 ^ n) n (removed-same n s m), m) (omega arith)

-- one vertex less
pub sum-removed : (value : ℕ → ℕ) (n s i : ℕ) → Member s i → i < n → sum_below value s n ≡ sum_below value (s - 2 ^ i) n + value i
sum-removed value zero s i m h = absurd (omega arith)
sum-removed value (suc n) s i m h =
    ⊎_elim
    (λ e. subst (λ (j : ℕ). sum_below value s (suc n) ≡ sum_below value (s - 2 ^ j) (suc n) + value j) e (sum_top value n s (subst (Member s) (sym e) m)))
    (λ o. let ih = sum-removed value n s i m (below_top o) in rw (removed-other i n s m o, ih) (omega arith))
    (same_or n i)
  where
    below_top : (n ≡ i → ⊥) → i < n
    below_top o = omega (arith, o)

-- the empty set
pub sum-none : (value : ℕ → ℕ) (n s : ℕ) → s ≡ 0 → sum_below value s n ≡ 0
sum-none value n s z = let b = sum_bound value 0 n s (λ v m. absurd (none-in-zero v (rw z at m))) in omega arith

-- a set is the sum of the powers of its vertices
pub sum-powers : (n s : ℕ) → sum_below (λ (v : ℕ). 2 ^ v) s n ≡ s % 2 ^ n
sum-powers zero s = omega arith
sum-powers (suc n) s =
    let ih = sum-powers n s in
    let e = mod-pow-add s 1 n in
    subst (λ (k : ℕ). sum_below (λ (v : ℕ). 2 ^ v) s (suc n) ≡ s % 2 ^ k) one_more (omega arith)
  where
    one_more : 1 + n ≡ suc n
    one_more = omega arith

pub sum-over-powers : (s : ℕ) → s < 2 ^ 64 → sum_over (λ (v : ℕ). 2 ^ v) s ≡ s
unfolding sum_over
sum-over-powers s h = sum-powers 64 s ∙ mod-eq_of_lt h

pub sum-over-within : (value : ℕ → ℕ) (a b : ℕ) → Within a b → sum_over value a ≤ sum_over value b
unfolding sum_over
sum-over-within value a b w = sum-within value 64 a b w

pub sum-over-same : (value other : ℕ → ℕ) (s : ℕ) → ((v : ℕ) → value v ≡ other v) → sum_over value s ≡ sum_over other s
unfolding sum_over
sum-over-same value other s e = sum_same value other 64 s (λ v m. e v)
