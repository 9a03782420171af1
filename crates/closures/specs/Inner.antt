-- What the inner functions answer. Nothing of this has to be believed: the contracts of the calls do not cite it.
use Rattle.std.specs.Prelude.{Option, MatchOption, Bool, List, ℕ, ◌≤◌, ◌<◌}
use Rattle.vertex_set.specs.Set.{Member, Iff}
use Rattle.setup.specs.declared.Rows.{Rows}
use Rattle.setup.specs.declared.Graph.{Graph}
use Rattle.setup.specs.Setup.{row_of, rows_at}
use Rattle.derivations.specs.Derivation.{Vertices}
use Rattle.derivations.specs.Inner.Admits.{Complete, SomeComplete, Admits}
use Rattle.successors.specs.Inner.{Follows}

-- r is the lowest complete colour; 8 where there is none.
pub record LowestColour (rows : Rows) (held : Vertices) (r : ℕ) : Type 0 where
  pub most : r ≤ 8
  pub complete : r < 8 → Complete held (row_of rows r)
  pub lower : (c : ℕ) → Complete held (row_of rows c) → (r ≤ c) × (c < 8)

-- r is the lowest complete colour, if there is one.
abbrev pub ColourFound : Rows → Vertices → Option ℕ → Type 0
ColourFound rows held r = MatchOption r (SomeComplete rows held → ⊥) (λ c. (c < 8) × LowestColour rows held c)

-- grown has the vertex v, and held has not.
abbrev pub Gained : ℕ → ℕ → ℕ → Type 0
Gained held grown v = Member grown v × (Member held v → ⊥)

-- r has the vertices outside of grown that need one which was gained; `list` has each vertex's successors.
pub record ToLookAt (list : List ℕ) (held grown r : ℕ) : Type 0 where
  pub each : (v : ℕ) → Iff (Member r v) (Follows list (Gained held grown) v × (Member grown v → ⊥))

-- r has the vertices of left that held admits.
pub record Admitted (loss : Bool) (g : Graph) (held left r : ℕ) : Type 0 where
  pub each : (v : ℕ) → Iff (Member r v) (Member left v × Admits loss (rows_at g v) (Member held))
