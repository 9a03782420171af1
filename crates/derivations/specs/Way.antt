-- The way in (document 01, "Access"): the one access derivation that always takes the lowest step.
use Rattle.std.specs.Prelude.{◌≡◌, List, [], ◌∷◌, ◌⊎◌, ℕ, ◌≤◌, ◌<◌}
use Rattle.setup.specs.declared.Graph.{Graph}
use Rattle.derivations.specs.Derivation.{Vertices, With}
use Rattle.derivations.specs.Access.{Step, Opens}

-- The lowest-numbered vertex that can be added, with its lowest complete colour.
pub record LowestStep (g : Graph) (held : Vertices) (e : Step) : Type 0 where
  pub new : held e.vertex → ⊥
  pub opens : Opens g held e
  pub lowest : (f : Step) → Opens g held f → (held f.vertex → ⊥) → (e.vertex < f.vertex) ⊎ ((e.vertex ≡ f.vertex) × (e.colour ≤ f.colour))

-- While the target isn't held, take the lowest step; end where it is.
abbrev pub Way : Graph → ℕ → Vertices → List Step → Type 0
Way g target held [] = held target
Way g target held (e ∷ d) = (held target → ⊥) × LowestStep g held e × Way g target (With held e.vertex) d
