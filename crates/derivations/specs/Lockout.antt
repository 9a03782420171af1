-- Lockout (document 003, definition 18; document 01, "Loss").
use Rattle.std.specs.Prelude.{◌≡◌, ℕ}
use Rattle.vertex_set.specs.Set.{Member}
use Rattle.setup.specs.declared.Graph.{Graph}
use Rattle.setup.specs.Setup.{row}
use Rattle.derivations.specs.Derivation.{Vertices, Rule, Closure}

-- Of the set s, some vertex is lost.
pub record SomeLost (lost : Vertices) (s : ℕ) : Type 0 where
  pub vertex : ℕ
  pub member : Member s vertex
  pub gone : lost vertex

-- The vertex v has a colour, and every colour of it needs a lost vertex. An empty row is no colour.
pub record Shuts (g : Graph) (lost : Vertices) (v : ℕ) : Type 0 where
  pub colour : ℕ
  pub coloured : row g v colour ≡ 0 → ⊥
  pub every : (c : ℕ) → (row g v c ≡ 0 → ⊥) → SomeLost lost (row g v c)

-- The rule of lockout: a step is the vertex that it adds, and is allowed where what is lost shuts that vertex.
abbrev pub lockout : Graph → Rule
lockout g = record { Step = ℕ; adds = λ v. v; Allowed = Shuts g }

-- r is lockoutFrom of the set s (document 01: the lost set): all vertices with a loss derivation from it.
abbrev pub LockoutFrom : Graph → ℕ → ℕ → Type 0
LockoutFrom g s r = Closure (lockout g) s r
