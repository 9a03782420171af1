-- Reading a setup: its vertices, its edges, and how many there are of each.
use Rattle.std.specs.Prelude.{◌≡◌, Bool, true, false, cond, List, [], ◌∷◌, ℕ, ◌+◌, ◌<◌, length, get_or, replicate, eqb}
use Rattle.std.specs.Int.Count.{ones}
use Rattle.vertex_set.specs.declared.VertexSet.{VertexSet}
use Rattle.vertex_set.specs.Set.{Member, Iff}
use Rattle.setup.specs.declared.Kind.TheVariants.{Credential}
use Rattle.std.specs.Prelude.{Option, None, Some}
use Rattle.setup.specs.declared.Vertex.{Vertex}
use Rattle.setup.specs.declared.Rows.{Rows}
use Rattle.setup.specs.declared.Graph.{Graph}
use Rattle.setup.specs.declared.Setup.{Setup}

-- A place not in use: a credential, neither initial nor losable, of rank 0.
abbrev pub unused_vertex : Vertex
unused_vertex = record { kind = Credential; start = None; loss = None; rank = 0 }

-- The vertex with number v.
abbrev pub vertex_at : Setup → ℕ → Vertex
vertex_at s v = get_or s.vertices v unused_vertex

-- The rows of the vertex v, one a colour.
abbrev pub rows_at : Graph → ℕ → Rows
rows_at g v = get_or g.rows v (record { needs = [] })

-- The row of colour c: the set of the vertices needed by that colour. Where it is empty, c is no colour.
abbrev pub row_of : Rows → ℕ → ℕ
row_of r c = get_or r.needs c 0

-- The row of colour c of the vertex v: what this colour of v needs in the graph.
abbrev pub row : Graph → ℕ → ℕ → ℕ
row g v c = row_of (rows_at g v) c

-- There is an edge of colour c from f to v: f is needed there.
abbrev pub Edge : Graph → ℕ → ℕ → ℕ → Type 0
Edge g f v c = Member (row g v c) f

-- The graph without edges.
unfoldable pub empty_graph : Graph
empty_graph = record { rows = replicate 64 (record { needs = replicate 8 0 }) }

-- The set without vertices: what is held, and what is opened, after reading.
abbrev pub no_vertices : VertexSet
no_vertices = record { 0 = 0 }

-- The setup of 0 items with no place in use.
abbrev pub no_items : Setup
no_items = record { count = 0; vertices = replicate 64 unused_vertex; graph = empty_graph; recovery = empty_graph; held = no_vertices; opened = no_vertices }

-- The sum of f over a list.
abbrev pub total {ℓ} : {A : Type ℓ} → (A → ℕ) → List A → ℕ
total f [] = 0
total f (x ∷ xs) = f x + total f xs

-- How many edges a graph has: the sizes of its rows, added up.
unfoldable pub edge_count : Graph → ℕ
edge_count g = total (λ r. total ones r.needs) g.rows

-- 1 for a value, 0 for a blank.
abbrev pub given : Option ℕ → ℕ
given None = 0
given (Some n) = 1

-- The number of a value; a blank has none, and counts as 0 where it is asked.
abbrev pub points : Option ℕ → ℕ
points None = 0
points (Some n) = n

-- The value by which a vertex counts: its start value for access, its loss value for lockout.
abbrev pub value_of : Bool → Vertex → Option ℕ
value_of false x = x.start
value_of true x = x.loss

-- v is initial (document 01: a starting item), or for lockout losable: it has a value there, perhaps zero, and no blank.
abbrev pub Chosen : Bool → Setup → ℕ → Type 0
Chosen loss s v = given (value_of loss (vertex_at s v)) ≡ 1

-- How many vertices are initial, and how many losable.
unfoldable pub chosen_count : Bool → Setup → ℕ
chosen_count loss s = total (λ x. given (value_of loss x)) s.vertices

-- A graph has 64 places of eight rows each: the types say so of each graph that a program holds.
pub record ShapedGraph (g : Graph) : Type 0 where
  pub places : length g.rows ≡ 64
  pub colours : (v : ℕ) → v < 64 → length (rows_at g v).needs ≡ 8

-- A setup has 64 vertices, and its graphs have their shape: the types say so of each setup that a program holds.
pub record Shaped (s : Setup) : Type 0 where
  pub places : length s.vertices ≡ 64
  pub graph : ShapedGraph s.graph
  pub recovery : ShapedGraph s.recovery

-- The graph without recovery (document 02, point 3; document 003: G', there by edges): of each vertex, a colour that has a recovery edge is taken
-- out whole. So an edge of the setup is left exactly where no edge of its colour into the same vertex is a recovery edge.
pub record WithoutRecovery (s : Setup) (g : Graph) : Type 0 where
  pub shaped : ShapedGraph g
  pub each : (f v c : ℕ) → Iff (Edge g f v c) (Edge s.graph f v c × ((e : ℕ) → Edge s.recovery e v c → ⊥))

-- One row of the graph without recovery, from the row and the row of recovery edges: the row itself where no edge is marked, else the empty row.
unfoldable pub row_less : ℕ → ℕ → ℕ
row_less row recovery = cond (eqb recovery 0) row 0

-- r is the set of the initial vertices, or for lockout of the losable ones.
pub record ChosenSet (loss : Bool) (s : Setup) (r : ℕ) : Type 0 where
  pub each : (v : ℕ) → Iff (Member r v) (Chosen loss s v)
  pub size : ones r ≡ chosen_count loss s
