-- What the inner functions answer. Nothing of this has to be believed: the contracts of the calls do not cite it.
use Rattle.std.specs.Prelude.{◌≡◌, List, ◌⊎◌, ℕ, ◌≤◌, ◌<◌, length, get_or, Option, MatchOption}
use Rattle.vertex_set.specs.Set.{Member, Iff}
use Rattle.setup.specs.declared.Rows.{Rows}
use Rattle.setup.specs.declared.Graph.{Graph}
use Rattle.setup.specs.Setup.{row_of, rows_at}

-- ---- a set taken apart

-- v is a vertex of the set s.
pub record VertexOf (s v : ℕ) : Type 0 where
  pub place : v < 64
  pub member : Member s v

-- v is the lowest vertex of the set s.
pub record LowestOf (s v : ℕ) : Type 0 where
  pub vertex : VertexOf s v
  pub lower : (i : ℕ) → Member s i → v ≤ i

-- v is the highest vertex of the set s.
pub record HighestOf (s v : ℕ) : Type 0 where
  pub vertex : VertexOf s v
  pub higher : (i : ℕ) → Member s i → i ≤ v

-- r is the set s without the vertex v.
pub record Without (s v r : ℕ) : Type 0 where
  pub each : (i : ℕ) → Iff (Member r i) (Member s i × (i ≡ v → ⊥))
  pub less : r < s

-- From the set s the lowest vertex was taken and r is left; or none was taken, since s is empty.
abbrev pub Taken : ℕ → Option ℕ → ℕ → Type 0
Taken s o r = MatchOption o (s ≡ 0) (λ v. LowestOf s v × Without s v r)

-- ---- the vertices that a vertex needs, and those that need it

-- Some colour of these rows needs the vertex f.
pub record Coloured (rows : Rows) (f : ℕ) : Type 0 where
  pub colour : ℕ
  pub member : Member (row_of rows colour) f

-- r is the set of all vertices that some colour of these rows needs.
pub record Needed (rows : Rows) (r : ℕ) : Type 0 where
  pub each : (f : ℕ) → Iff (Member r f) (Coloured rows f)

-- v has become a successor of each of the needed vertices, and nothing else has changed.
pub record Noted (needed v : ℕ) (entry exit : List ℕ) : Type 0 where
  pub long : length exit ≡ 64
  pub each : (f u : ℕ) → f < 64 → Iff (Member (get_or exit f 0) u) (Member (get_or entry f 0) u ⊎ (Member needed f × (u ≡ v)))

-- The list has for each vertex f its successors: the vertices that need f by some colour.
pub record Successors (g : Graph) (list : List ℕ) : Type 0 where
  pub long : length list ≡ 64
  pub each : (f v : ℕ) → f < 64 → Iff (Member (get_or list f 0) v) (Coloured (rows_at g v) f)

-- By the list, v is a successor of some vertex of which P holds.
pub record Follows (list : List ℕ) (P : ℕ → Type 0) (v : ℕ) : Type 0 where
  pub vertex : ℕ
  pub holds : P vertex
  pub edge : Member (get_or list vertex 0) v

-- r is the set of all successors of the set's vertices.
pub record AllSuccessors (list : List ℕ) (set r : ℕ) : Type 0 where
  pub each : (v : ℕ) → Iff (Member r v) (Follows list (Member set) v)
