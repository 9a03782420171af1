-- Masks: with the chosen vertices numbered from 0 in rising order, a mask stands for the set of those at its bits.
use Rattle.std.specs.Prelude.{ℕ, ◌%◌, ◌^◌, ◌<◌}
use Rattle.std.specs.Int.Count.{ones}
use Rattle.vertex_set.specs.Set.{Member, Within, Iff}
use Rattle.families.specs.Inner.Family.{masks}

-- How many chosen vertices are below v: the number of v among them, if it is chosen.
unfoldable pub place_among : ℕ → ℕ → ℕ
place_among chosen v = ones (chosen % 2 ^ v)

-- v is in the set that the mask m stands for.
unfoldable pub Picked : ℕ → ℕ → ℕ → Type 0
Picked chosen m v = Member chosen v × Member m (place_among chosen v)

-- The mask m stands for the set x.
pub record SetOfMask (chosen m x : ℕ) : Type 0 where
  pub each : (v : ℕ) → Iff (Member x v) (Picked chosen m v)

-- r is the mask of x, if x is a set of chosen vertices, and has no bit beyond their number.
pub record MaskOf (chosen x r : ℕ) : Type 0 where
  pub of : Within x chosen → SetOfMask chosen r x
  pub exact : r < 2 ^ ones chosen
  pub room : r < masks
