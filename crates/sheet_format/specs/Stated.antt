-- What rows state, item by item and edge by edge (document 01, "The sheet"), without the definitions by which `setup_of` makes a setup from rows.
-- Statements only; proofs/Stated.antt has the theorems.
use Rattle.std.specs.Prelude.{◌≡◌, List, [], ◌∷◌, true, ℕ, zero, suc, ◌≤◌, length}
use Rattle.vertex_set.specs.Set.{Iff}
use Rattle.setup.specs.declared.Vertex.{Vertex}
use Rattle.setup.specs.declared.Setup.{Setup}
use Rattle.setup.specs.Setup.{unused_vertex, vertex_at, row, Edge, Shaped}
use Rattle.sheet_format.specs.Rows.{ItemRow, EdgeRow, Doc, Valid, setup_of}

-- x stands in the list at place i; places count from 0.
abbrev pub StandsAt : {A : Type 0} → List A → ℕ → A → Type 0
StandsAt [] i x = ⊥
StandsAt (y ∷ ys) zero x = y ≡ x
StandsAt (y ∷ ys) (suc i) x = StandsAt ys i x

-- The vertex has the kind, start, loss and rank of the item row.
pub record HasFields (x : ItemRow) (v : Vertex) : Type 0 where
  pub kind : v.kind ≡ x.kind
  pub start : v.start ≡ x.start
  pub loss : v.loss ≡ x.loss
  pub rank : v.rank ≡ x.rank

-- The edge row e joins item f to item v in colour c: it has the names of their item rows, and that colour.
pub record Joins (d : Doc) (f v c : ℕ) (e : EdgeRow) : Type 0 where
  pub place : ℕ
  pub stands : StandsAt d.edges place e
  pub source : ItemRow
  pub source_at : StandsAt d.items f source
  pub target : ItemRow
  pub target_at : StandsAt d.items v target
  pub from : e.from ≡ source.name
  pub to : e.to ≡ target.name
  pub colour : e.colour ≡ c

-- The rows of d state the setup s.
pub record Stated (d : Doc) (s : Setup) : Type 0 where
  -- 64 places, eight rows in each
  pub shaped : Shaped s
  -- items count from 0 in row order
  pub count : s.count ≡ length d.items
  pub items : (i : ℕ) (x : ItemRow) → StandsAt d.items i x → HasFields x (vertex_at s i)
  -- there is an edge where there is an edge row, and one marked 1 is a recovery edge too
  pub edges : (f v c : ℕ) → Iff (Edge s.graph f v c) ((e : EdgeRow) × Joins d f v c e)
  pub recovery : (f v c : ℕ) → Iff (Edge s.recovery f v c) ((e : EdgeRow) × Joins d f v c e × (e.rec ≡ true))
  -- a place not in use has kind `c`, `-`, `-`, rank 0 and empty rows
  pub unused : (v : ℕ) → s.count ≤ v → vertex_at s v ≡ unused_vertex
  pub empty_rows : (v c : ℕ) → s.count ≤ v → (row s.graph v c ≡ 0) × (row s.recovery v c ≡ 0)
  -- nothing is held, and nothing opened (document 02, point 8)
  pub unheld : s.held.0 ≡ 0
  pub unopened : s.opened.0 ≡ 0

-- Valid rows state the setup that they yield.
abbrev pub StatedByRows : Type 0
StatedByRows = (d : Doc) → Valid d → Stated d (setup_of d)

-- Rows state at most one setup.
abbrev pub StatedUnique : Type 0
StatedUnique = (d : Doc) (s t : Setup) → Stated d s → Stated d t → s ≡ t
