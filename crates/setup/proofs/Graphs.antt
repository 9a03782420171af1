-- Where the edges of a graph are, and that they determine it; the shape of the graph without edges.
-- Assumes nothing.
use mathlib.Core.Path.{◌≡◌, ap}
use mathlib.Core.List.{[]}
use mathlib.Core.Logic.{⊎_elim}
use Prim.Native.Nat.{ℕ, ◌≤◌, ◌<◌}
use native.Mathlib.Omega.{arith}
use lib.ListN.{length, replicate, length-replicate, get_or-replicate, get_or-eq_default}
use lib.Seq.{ext_get_or}
use Rattle.vertex_set.specs.Set.{Member, Iff}
use Rattle.vertex_set.proofs.Cases.{less-or}
use Rattle.vertex_set.proofs.Sets.{not-empty, one_set}
use Rattle.vertex_set.proofs.Decisions.{iff-refl}
use Rattle.setup.specs.declared.Rows.{Rows}
use Rattle.setup.specs.declared.Graph.{Graph}
use Rattle.setup.specs.Setup.{rows_at, row_of, row, Edge, ShapedGraph, empty_graph}

-- a colour is one of the places of the rows, of which there are at most n
pub colour-below : (r : Rows) (n c : ℕ) → length r.needs ≤ n → (row_of r c ≡ 0 → ⊥) → c < n
colour-below r n c long d = ⊎_elim (λ l. l) (λ l. absurd (d (get_or-eq_default r.needs 0 (omega arith)))) (less-or c n)

-- a vertex with a colour is one of the 64 places of the graph
pub coloured-place : (g : Graph) → length g.rows ≡ 64 → (v c : ℕ) → (row g v c ≡ 0 → ⊥) → v < 64
coloured-place g long v c d =
    ⊎_elim (λ l. l) (λ l. absurd (d (ap (λ (r : Rows). row_of r c) (get_or-eq_default g.rows (record { needs = [] }) (omega arith))))) (less-or v 64)

-- an edge runs to one of the 64 places, in one of the 8 colours
pub edge-place : (g : Graph) → length g.rows ≡ 64 → (f v c : ℕ) → Edge g f v c → v < 64
edge-place g long f v c m = coloured-place g long v c (not-empty (row g v c) f m)

pub edge-colour : (r : Rows) → length r.needs ≡ 8 → (f c : ℕ) → Member (row_of r c) f → c < 8
edge-colour r long f c m = colour-below r 8 c (omega arith) (not-empty (row_of r c) f m)

-- rows with the same vertices are one
rows_same : (x y : Rows) → length x.needs ≡ 8 → length y.needs ≡ 8 → ((f c : ℕ) → Iff (Member (row_of x c) f) (Member (row_of y c) f)) → x ≡ y
rows_same x y lx ly h =
    let e : x.needs ≡ y.needs = ext_get_or 0 x.needs y.needs (omega arith) (λ c l.
    one_set (Member (row_of y c)) (row_of x c) (row_of y c) (λ f. h f c) (λ f. iff-refl)) in
    λ i. record { needs = e i }

-- graphs with the same edges are one
pub graph_same : (g k : Graph) → ShapedGraph g → ShapedGraph k → ((f v c : ℕ) → Iff (Edge g f v c) (Edge k f v c)) → g ≡ k
graph_same g k sg sk h =
    let lg = sg.places in
    let lk = sk.places in
    let e : g.rows ≡ k.rows = ext_get_or (record { needs = [] }) g.rows k.rows (omega arith) (λ v l.
    rows_same (rows_at g v) (rows_at k v) (sg.colours v (omega arith)) (sk.colours v (omega arith)) (λ f c. h f v c)) in
    λ i. record { rows = e i }

-- ---- the graph without edges

pub empty-shaped : ShapedGraph empty_graph
unfolding empty_graph
empty-shaped =
    let empty_rows : Rows = record { needs = replicate 8 0 } in
    record {
      places = length-replicate 64 empty_rows;
      colours = λ v l. rw (get_or-replicate 64 v empty_rows (record { needs = [] }) l) (length-replicate {A = ℕ} 8 0);
    }
