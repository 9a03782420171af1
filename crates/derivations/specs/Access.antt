-- Access (document 003, definitions 2 and 3; document 01, "Access").
use Rattle.std.specs.Prelude.{◌≡◌, ℕ}
use Rattle.vertex_set.specs.Set.{Member}
use Rattle.setup.specs.declared.Graph.{Graph}
use Rattle.setup.specs.Setup.{row}
use Rattle.derivations.specs.Derivation.{Vertices, Rule, Derivation, Closure}

-- An entry of a derivation: a vertex, and the colour by which it is opened.
pub record Step : Type 0 where
  pub vertex : ℕ
  pub colour : ℕ

-- The row of the step's vertex and colour is not empty, and lies within what is held.
pub record Opens (g : Graph) (held : Vertices) (e : Step) : Type 0 where
  pub coloured : row g e.vertex e.colour ≡ 0 → ⊥
  pub complete : (i : ℕ) → Member (row g e.vertex e.colour) i → held i

-- The rule of access: a step adds its vertex, and is allowed where what is held opens that vertex by the step's colour.
abbrev pub access : Graph → Rule
access g = record { Step = Step; adds = λ e. e.vertex; Allowed = Opens g }

-- v can be opened by whoever holds these vertices.
abbrev pub HasAccess : Graph → Vertices → ℕ → Type 0
HasAccess g held v = Derivation (access g) held v

-- r is accessFrom of the set s (document 01: the closure): all vertices with a derivation from it.
abbrev pub AccessFrom : Graph → ℕ → ℕ → Type 0
AccessFrom g s r = Closure (access g) s r
