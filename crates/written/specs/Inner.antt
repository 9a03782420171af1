-- Inner: what a function that writes into a lent list leaves there.
use Rattle.std.specs.Prelude.{◌≡◌, List, ℕ, ◌+◌, length}
use Rattle.std.proofs.lemmas.List.Edits.{sets}

-- From `at` on stand the items xs, and r is the next place.
pub record Wrote {A : Type 0} (entry : List A) (at : ℕ) (xs after : List A) (r : ℕ) : Type 0 where
  pub exit : after ≡ sets entry at xs
  pub next : r ≡ at + length xs
