-- A set filled from the lowest vertex on. Nothing of this has to be believed: the contracts of the calls do not cite it.
use Rattle.std.specs.Prelude.{ℕ, ◌<◌}
use Rattle.vertex_set.specs.Set.{Member, Iff}

-- r is the set of the vertices below n that have the property.
pub record TakenBelow (P : ℕ → Type 0) (n r : ℕ) : Type 0 where
  pub each : (i : ℕ) → Iff (Member r i) ((i < n) × P i)
