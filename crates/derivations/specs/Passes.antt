-- Passes by a rule (document 02, point 4).
use Rattle.std.specs.Prelude.{◌≡◌, ◌⊎◌, ℕ, zero, suc}
use Rattle.vertex_set.specs.Set.{Member, Iff}
use Rattle.derivations.specs.Derivation.{Vertices, Rule}

-- Some step that these vertices allow adds v.
pub record Allows (r : Rule) (held : Vertices) (v : ℕ) : Type 0 where
  pub step : r.Step
  pub allowed : r.Allowed held step
  pub adds : v ≡ r.adds step

-- A pass: t has the vertices of s and, together, all that the set s at its beginning allows.
pub record Pass (r : Rule) (s t : ℕ) : Type 0 where
  pub each : (v : ℕ) → Iff (Member t v) (Member s v ⊎ Allows r (Member s) v)

-- n passes lead from s to t. The one that adds nothing is the last, and is counted as well.
abbrev pub Passes : Rule → ℕ → ℕ → ℕ → Type 0
Passes r zero s t = ⊥
Passes r (suc n) s t = (Pass r s s × (n ≡ 0) × (t ≡ s)) ⊎ ((u : ℕ) × Pass r s u × (u ≡ s → ⊥) × Passes r n u t)
