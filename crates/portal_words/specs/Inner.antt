-- What the inner functions answer. Nothing of this has to be believed.
use Rattle.std.specs.Prelude.{◌≡◌, List, ℕ, length}
use Rattle.written.specs.Inner.{Wrote}

-- From `at` on stand the n words xs, and r is the next place.
pub record WroteAll (n : ℕ) (entry : List ℕ) (at : ℕ) (xs after : List ℕ) (r : ℕ) : Type 0 where
  pub long : length xs ≡ n
  pub wrote : Wrote entry at xs after r
