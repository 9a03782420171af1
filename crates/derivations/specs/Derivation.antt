-- Derivations by a rule: lists in which each step is allowed by what is held and by the steps before it.
use Rattle.std.specs.Prelude.{◌≡◌, List, [], ◌∷◌, ◌⊎◌, ℕ}
use Rattle.vertex_set.specs.Set.{Member, Iff}

-- A collection of vertices, as a predicate: what is held, or what is lost.
abbrev pub Vertices : Type 1
Vertices = ℕ → Type 0

-- A rule: its steps, the vertex that a step adds, and when a step is allowed.
pub record Rule : Type 1 where
  pub Step : Type 0
  pub adds : Step → ℕ
  pub Allowed : Vertices → Step → Type 0

-- What is held once a step has added v.
abbrev pub With : Vertices → ℕ → Vertices
With held v i = held i ⊎ (i ≡ v)

-- Each step of the list is allowed by what is held and by the earlier steps.
abbrev pub Run : (r : Rule) → Vertices → List r.Step → Type 0
Run r held [] = Unit {0}
Run r held (e ∷ d) = r.Allowed held e × Run r (With held (r.adds e)) d

-- A step of the list adds v.
abbrev pub Adds : (r : Rule) → List r.Step → ℕ → Type 0
Adds r [] v = ⊥
Adds r (e ∷ d) v = (v ≡ r.adds e) ⊎ Adds r d v

-- A derivation of v: a run whose steps add v, or any run where v is held; so a held vertex has the empty one.
pub record Derivation (r : Rule) (held : Vertices) (v : ℕ) : Type 0 where
  pub steps : List r.Step
  pub run : Run r held steps
  pub has : held v ⊎ Adds r steps v

-- t is the closure of the set s by the rule: all vertices with a derivation from s.
pub record Closure (r : Rule) (s t : ℕ) : Type 0 where
  pub each : (v : ℕ) → Iff (Member t v) (Derivation r (Member s) v)
