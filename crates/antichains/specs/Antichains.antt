-- Lists of sets of which none lies within another, and how long they can be.
use Rattle.std.specs.Prelude.{◌≡◌, List, ℕ, zero, suc, ◌+◌, ◌/◌, ◌≤◌, length}
use Rattle.std.specs.Int.Count.{ones}
use Rattle.vertex_set.specs.Set.{Within}
use Rattle.vertex_set.specs.Order.{Listed, Once}

-- The number of ways to choose k of n things: with the first thing among the k, or without it (Pascal's rule).
unfoldable pub choose : ℕ → ℕ → ℕ
choose zero zero = 1
choose zero (suc k) = 0
choose (suc n) zero = 1
choose (suc n) (suc k) = choose n k + choose n (suc k)

-- No set stands in the list twice, and none lies within another.
pub record Antichain (l : List ℕ) : Type 0 where
  pub once : Once l
  pub apart : (a b : ℕ) → Listed l a → Listed l b → Within a b → a ≡ b

-- Sperner's theorem, for the subsets of any set t: an antichain of them is no longer than the number of ways to choose half of t.
abbrev pub Sperner : Type 0
Sperner = (t : ℕ) (l : List ℕ) → ((x : ℕ) → Listed l x → Within x t) → Antichain l → length l ≤ choose (ones t) (ones t / 2)

-- The most sets of an antichain over 14 things (document 02, point 10).
abbrev pub most_sets : ℕ
most_sets = 3432

-- 1 way for no things, and 3,432 ways for 14.
pub record HalfAtBounds : Type 0 where
  pub none : choose 0 (0 / 2) ≡ 1
  pub fourteen : choose 14 (14 / 2) ≡ most_sets
