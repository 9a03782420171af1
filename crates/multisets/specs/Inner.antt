-- What the inner functions answer. Nothing of this has to be believed: the contract of the call does not cite it.
use Rattle.std.specs.Prelude.{List, ℕ}
use Rattle.multisets.specs.Meaning.{Fewer}

-- No threshold has more values at or above it in m than in n.
pub record FewerThan (m n : List ℕ) : Type 0 where
  pub each : Fewer m n
