-- Inner: the members of a family one after the other, fewer bits first and then the smaller mask. Nothing of this has to be believed: no
-- contract of an offered call cites it.
use Rattle.std.specs.Prelude.{◌≡◌, List, Option, Some, ◌⊎◌, ℕ, ◌+◌, ◌*◌, ◌≤◌, ◌<◌}
use Rattle.std.specs.Int.Count.{ones}
use Rattle.vertex_set.specs.Set.{Member, Iff}
use Rattle.vertex_set.specs.Order.{Before}
use Rattle.families.specs.Inner.Family.{In, masks}

-- The lanes of word b whose masks are `from` or above it.
pub record LanesFrom (b from r : ℕ) : Type 0 where
  pub each : (i : ℕ) → i < 64 → Iff (Member r i) (from ≤ b * 64 + i)

-- r is the lowest member of f that has s bits and is `from` or above it, if there is one.
pub record FirstOfSize (f : List ℕ) (s from : ℕ) (r : Option ℕ) : Type 0 where
  pub found : (m : ℕ) → r ≡ Some m → (m < masks) × In f m × (ones m ≡ s) × (from ≤ m)
  pub lowest : (k : ℕ) → k < masks → In f k → ones k ≡ s → from ≤ k → (m : ℕ) × (r ≡ Some m) × (m ≤ k)

-- r is the first member of f after the mask m, if there is one.
pub record NextMember (f : List ℕ) (m : ℕ) (r : Option ℕ) : Type 0 where
  pub found : (n : ℕ) → r ≡ Some n → (n < masks) × In f n × Before m n
  pub first : (k : ℕ) → k < masks → In f k → Before m k → (n : ℕ) × (r ≡ Some n) × ((n ≡ k) ⊎ Before n k)
