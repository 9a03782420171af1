-- The loop that sums up the values of a set's vertices, lowest first.
-- Assumes nothing.
use mathlib.Core.Path.{◌≡◌}
use Prim.Native.Nat.{ℕ, ◌+◌, ◌-◌, ◌*◌, ◌%◌, ◌^◌, ◌≤◌, ◌<◌}
use native.Mathlib.Omega.{arith}
use lib.Count.{count_trailing_zeros}
use Rattle.vertex_set.specs.Order.{sum_over}
use Rattle.vertex_set.proofs.Places.{lowest}
use Rattle.vertex_set.proofs.Sums.{sum_bound, sum-removed, sum-none}
use Rattle.setup.specs.Bounds.{largest}

-- The values of the vertices of rest are still to be added.
pub record Summing (value : ℕ → ℕ) (x rest sum : ℕ) : Type 0 where
  pub small : rest < 2 ^ 64
  pub parts : sum + sum_over value rest ≡ sum_over value x

sum-whole : (value : ℕ → ℕ) (x : ℕ) → ((v : ℕ) → value v ≤ largest) → sum_over value x ≤ 64 * largest
unfolding sum_over
sum-whole value x small = sum_bound value largest 64 x (λ v m. small v)

pub summing-none : (value : ℕ → ℕ) (x : ℕ) → x < 2 ^ 64 → Summing value x x 0
summing-none value x h = record { small = h; parts = omega arith }

module _ (value : ℕ → ℕ) (x rest sum : ℕ) (ne : rest ≡ 0 → ⊥) (g : Summing value x rest sum) where
  next-part : sum_over value rest ≡ sum_over value (rest - 2 ^ count_trailing_zeros 64 rest) + value (count_trailing_zeros 64 rest)
  unfolding sum_over
  next-part = let l = lowest rest g.small ne in sum-removed value 64 rest (count_trailing_zeros 64 rest) l.member l.below

  -- no sum on the way is above the whole one
  pub summing-fits : ((v : ℕ) → value v ≤ largest) → sum + value (count_trailing_zeros 64 rest) < 2 ^ 64
  summing-fits small = let n = next-part in let b = sum-whole value x small in omega (arith, g.parts)

  pub summing-more : Summing value x (rest - (1 * 2 ^ count_trailing_zeros 64 rest) % 2 ^ 64) (sum + value (count_trailing_zeros 64 rest))
  summing-more =
      let l = lowest rest g.small ne in
      let n = next-part in
      rw l.power (record { small = omega (arith, g.small); parts = omega (arith, g.parts) })

sum-over-none : (value : ℕ → ℕ) (s : ℕ) → s ≡ 0 → sum_over value s ≡ 0
unfolding sum_over
sum-over-none value s z = sum-none value 64 s z

pub summing-end : (value : ℕ → ℕ) (x rest sum : ℕ) → rest ≡ 0 → Summing value x rest sum → sum ≡ sum_over value x
summing-end value x rest sum z g = let n = sum-over-none value rest z in omega (arith, g.parts)
