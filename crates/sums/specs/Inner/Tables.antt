-- Inner: sums of all masks by two tables.
use Rattle.std.specs.Prelude.{◌≡◌, List, ℕ, ◌+◌, ◌/◌, ◌%◌, ◌^◌, ◌<◌, length, get_or}
use Rattle.families.specs.Inner.Family.{masks}

-- The sum that two tables give for the mask m: the bits from 7 on by `high`, the others by `low`.
abbrev pub sum_by : List ℕ → List ℕ → ℕ → ℕ
sum_by low high m = get_or high (m / 128) 0 + get_or low (m % 128) 0

-- No sum that the two tables give is too large for a word.
pub record TablesFit (low high : List ℕ) : Type 0 where
  pub long-low : length low ≡ 128
  pub long-high : length high ≡ 128
  pub fits : (m : ℕ) → m < masks → sum_by low high m < 2 ^ 64
