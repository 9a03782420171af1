-- What holds of access and of lockout alike, for every graph.
use Rattle.std.specs.Prelude.{◌⊎◌, ℕ}
use Rattle.vertex_set.specs.Set.{Iff}
use Rattle.derivations.specs.Derivation.{Vertices, Rule, Derivation}

pub record Laws (r : Rule) : Type 1 where
  -- a held vertex has the empty derivation
  pub held : (A : Vertices) (v : ℕ) → A v → Derivation r A v
  -- who holds more derives more
  pub monotone : (A B : Vertices) → ((i : ℕ) → A i → B i) → (v : ℕ) → Derivation r A v → Derivation r B v
  -- the closure of A and B together is the closure of (the closure of A) and B together
  pub union : (A B : Vertices) (v : ℕ) → Iff (Derivation r (λ i. A i ⊎ B i) v) (Derivation r (λ i. Derivation r A i ⊎ B i) v)
  -- closing twice changes nothing
  pub twice : (A : Vertices) (v : ℕ) → Iff (Derivation r (Derivation r A) v) (Derivation r A v)
  -- the derivable vertices are within everything that has the start and all that it allows
  pub least : (A B : Vertices) → ((i : ℕ) → A i → B i) → ((e : r.Step) → r.Allowed B e → B (r.adds e)) → (v : ℕ) → Derivation r A v → B v
