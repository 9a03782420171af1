-- What the inner functions answer, a setup with other vertices held, and a kind by its number. Nothing of this has to be believed: the contracts of the calls do not cite it.
use Rattle.std.specs.Prelude.{◌≡◌, ℕ, length, set}
use Rattle.vertex_set.specs.declared.VertexSet.{VertexSet}
use Rattle.vertex_set.specs.Set.{Member, Iff}
use Rattle.setup.specs.declared.Kind.{Kind}
use Rattle.setup.specs.declared.Kind.TheVariants.{Credential, Account}
use Rattle.setup.specs.declared.Rows.{Rows}
use Rattle.setup.specs.declared.Graph.{Graph}
use Rattle.setup.specs.declared.Setup.{Setup}
use Rattle.setup.specs.Setup.{row_of, rows_at}

-- The rows r of a vertex are its rows without recovery, edge by edge: a colour that has a recovery edge is taken out.
pub record RowsLess (rows recovery r : Rows) : Type 0 where
  pub long : length r.needs ≡ 8
  pub each : (f c : ℕ) → Iff (Member (row_of r c) f) (Member (row_of rows c) f × ((e : ℕ) → Member (row_of recovery c) e → ⊥))

-- The graph g with x as the row of colour c of the vertex v.
unfoldable pub graph_with_row : Graph → ℕ → ℕ → ℕ → Graph
graph_with_row g v c x = record { rows = set g.rows v (record { needs = set (rows_at g v).needs c x }) }

-- The setup s with another held and another opened set.
abbrev pub holding : Setup → VertexSet → VertexSet → Setup
holding s h o = record { count = s.count; vertices = s.vertices; graph = s.graph; recovery = s.recovery; held = h; opened = o }

-- A kind by a number, by which two are told apart.
abbrev pub kind_number : Kind → ℕ
kind_number Credential = 0
kind_number Account = 1
