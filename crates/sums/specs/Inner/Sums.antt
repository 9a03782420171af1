-- Inner: sums of weights at a mask's bits.
use Rattle.std.specs.Prelude.{◌≡◌, List, [], ◌∷◌, ℕ, ◌+◌, ◌*◌, ◌/◌, ◌%◌, ◌^◌, ◌<◌, length, get_or, drop}
use Rattle.vertex_set.specs.Order.{sum_over}
use Rattle.families.specs.Inner.Family.{mask_bits}
use Rattle.families.specs.Inner.Masks.{SetOfMask}

-- At v stands the number of the set that has v alone.
pub record Singles (values : List ℕ) : Type 0 where
  pub each : (v : ℕ) → v < 64 → get_or values v 0 ≡ 2 ^ v

-- The sum of the weights at the bits of the mask m.
abbrev pub sum_at : List ℕ → ℕ → ℕ
sum_at [] m = 0
sum_at (w ∷ ws) m = m % 2 * w + sum_at ws (m / 2)

-- The weights at a mask's bits sum up to the values of its set.
pub record WeightsOf (chosen : ℕ) (value : ℕ → ℕ) (ws : List ℕ) : Type 0 where
  pub long : length ws ≡ mask_bits
  pub sum : (m x : ℕ) → SetOfMask chosen m x → sum_at ws m ≡ sum_over value x

-- No sum of weights is too large for a word.
pub record SumsFit (ws : List ℕ) : Type 0 where
  pub fits : (m : ℕ) → sum_at ws m < 2 ^ 64

-- The table t has the sums of seven weights, the first of them at n.
pub record SumTable (ws : List ℕ) (n : ℕ) (t : List ℕ) : Type 0 where
  pub each : (k : ℕ) → k < 128 → get_or t k 0 ≡ sum_at (drop n ws) k
