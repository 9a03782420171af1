-- The next set of an access base (document 01: of an opening list) after a given one (document 02, point 9).
use Rattle.std.specs.Prelude.{◌≡◌, false, ◌⊎◌, ℕ}
use Rattle.vertex_set.specs.Set.{Member}
use Rattle.vertex_set.specs.Order.{Before}
use Rattle.setup.specs.declared.Setup.{Setup}
use Rattle.setup.specs.Setup.{Chosen}
use Rattle.bases.specs.Base.{MinimalSet}

-- Question 21: the set has initial vertices alone (document 01: starting items).
pub record OfInitial (s : Setup) (x : ℕ) : Type 0 where
  pub each : (v : ℕ) → Member x v → Chosen false s v

-- x is the first set of the target's access base that comes after `last`. `last` itself need not be in the base.
pub record NextSet (s : Setup) (target last x : ℕ) : Type 0 where
  pub is : MinimalSet false s s.graph target x
  pub after : Before last x
  pub first : (y : ℕ) → MinimalSet false s s.graph target y → Before last y → (x ≡ y) ⊎ Before x y

-- No set of the target's access base comes after `last`.
pub record NoMore (s : Setup) (target last : ℕ) : Type 0 where
  pub none : (y : ℕ) → MinimalSet false s s.graph target y → Before last y → ⊥
