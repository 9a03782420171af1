-- The parts of question 12, as the functions that ask them have it. What must be believed is in WellFormed alone.
use Rattle.std.specs.Prelude.{◌≡◌, true, false, List, ℕ, ◌≤◌, ◌<◌, length, get_or}
use Rattle.vertex_set.specs.Set.{Within, Member, Iff}
use Rattle.setup.specs.Bounds.{most_edges, most_chosen}
use Rattle.setup.specs.declared.Vertex.{Vertex}
use Rattle.setup.specs.declared.Rows.{Rows}
use Rattle.setup.specs.declared.Graph.{Graph}
use Rattle.setup.specs.Setup.{unused_vertex, rows_at, row_of, total, edge_count, given, value_of}
use Rattle.derivations.specs.Access.{AccessFrom}
use Rattle.formed.specs.WellFormed.{ValidVertex}

-- The vertex at the place v is as its being in use, or not, wants it.
pub record VertexFits (count v : ℕ) (x : Vertex) : Type 0 where
  pub used : v < count → ValidVertex x
  pub unused : count ≤ v → x ≡ unused_vertex

-- Each row needs only vertices of the set, and recovery rows lie within the rows.
pub record RowsFit (bound : ℕ) (rows recovery : Rows) : Type 0 where
  pub bounded : (c : ℕ) → c < 8 → Within (row_of rows c) bound
  pub marked : (c : ℕ) → c < 8 → Within (row_of recovery c) (row_of rows c)
  pub long : length rows.needs ≡ 8
  pub long_marked : length recovery.needs ≡ 8

-- The set of the vertices that the place v may need: those of the setup where it is in use, and none where it is not.
pub record MayNeed (count v set : ℕ) : Type 0 where
  pub each : (f : ℕ) → Iff (Member set f) ((v < count) × (f < count) × (f < 64))

-- The rows of a place: within the vertices where it is in use, and empty where it is not.
pub record EdgesFit (count v : ℕ) (rows recovery : Rows) : Type 0 where
  pub ends : (f c : ℕ) → c < 8 → Member (row_of rows c) f → (f < count) × (v < count)
  pub marked : (f c : ℕ) → c < 8 → Member (row_of recovery c) f → Member (row_of rows c) f
  pub long : length rows.needs ≡ 8
  pub long_marked : length recovery.needs ≡ 8

-- Every place's rows fit, and there are not too many edges.
pub record GraphsFit (count : ℕ) (graph recovery : Graph) : Type 0 where
  pub each : (v : ℕ) → v < 64 → EdgesFit count v (rows_at graph v) (rows_at recovery v)
  pub edges : edge_count graph ≤ most_edges

-- Every place's vertex fits, and not too many are initial, or losable.
pub record VerticesFit (count : ℕ) (vertices : List Vertex) : Type 0 where
  pub each : (v : ℕ) → v < 64 → VertexFits count v (get_or vertices v unused_vertex)
  pub initial : total (λ x. given (value_of false x)) vertices ≤ most_chosen
  pub losable : total (λ x. given (value_of true x)) vertices ≤ most_chosen

-- Only vertices of the setup are held, and opened is what they open.
pub record HoldingFits (count : ℕ) (graph : Graph) (held opened : ℕ) : Type 0 where
  pub holds : (v : ℕ) → Member held v → v < count
  pub opens : AccessFrom graph held opened
