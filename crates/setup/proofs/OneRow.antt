-- A graph of which one row is replaced: its shape, its edges, and how many there are.
-- Assumes nothing.
use mathlib.Core.Path.{◌≡◌, refl, sym, ap, subst, ◌∙◌}
use mathlib.Core.List.{[]}
use mathlib.Core.Logic.{◌⊎◌, inl, inr, ⊎_elim}
use Prim.Native.Nat.{ℕ, ◌+◌, ◌<◌}
use native.Mathlib.Omega.{arith}
use lib.ListN.{length, set, length-set}
use lib.Seq.{get_or-set_same, get_or-set_other}
use lib.Count.{ones}
use Rattle.vertex_set.specs.Set.{Member, Iff}
use Rattle.vertex_set.proofs.Cases.{same_or}
use Rattle.setup.specs.declared.Rows.{Rows}
use Rattle.setup.specs.declared.Graph.{Graph}
use Rattle.setup.specs.Setup.{rows_at, row_of, row, Edge, ShapedGraph, total, edge_count}
use Rattle.setup.specs.Inner.{graph_with_row}
use Rattle.setup.proofs.Counts.{total-set}

module _ (g : Graph) (v c x : ℕ) (sh : ShapedGraph g) (lv : v < 64) (lc : c < 8) where
  new : Rows
  new = record { needs = set (rows_at g v).needs c x }

  here : rows_at (graph_with_row g v c x) v ≡ new
  unfolding graph_with_row new
  here = get_or-set_same g.rows v new (record { needs = [] }) (let p = sh.places in omega arith)

  there : (u : ℕ) → (u ≡ v → ⊥) → rows_at (graph_with_row g v c x) u ≡ rows_at g u
  unfolding graph_with_row new
  there u d = get_or-set_other g.rows v u new (record { needs = [] }) d

  long : length new.needs ≡ 8
  unfolding new
  long = length-set (rows_at g v).needs c x ∙ sh.colours v lv

  pub row-shaped : ShapedGraph (graph_with_row g v c x)
  unfolding graph_with_row new
  row-shaped =
      record {
        places = length-set g.rows v new ∙ sh.places;
        colours = λ u l. ⊎_elim
            (λ e. subst (λ (w : ℕ). length (rows_at (graph_with_row g v c x) w).needs ≡ 8) (sym e) (ap (λ (r : Rows). length r.needs) here ∙ long))
            (λ d. ap (λ (r : Rows). length r.needs) (there u d) ∙ sh.colours u l)
            (same_or u v);
      }

  row_here : row (graph_with_row g v c x) v c ≡ x
  unfolding new
  row_here = ap (λ (r : Rows). row_of r c) here ∙ get_or-set_same (rows_at g v).needs c x 0 (let p = sh.colours v lv in omega arith)

  row-there : (u b : ℕ) → (u ≡ v → b ≡ c → ⊥) → row (graph_with_row g v c x) u b ≡ row g u b
  unfolding new
  row-there u b d = ⊎_elim
      (λ e. subst (λ (w : ℕ). row (graph_with_row g v c x) w b ≡ row g w b) (sym e)
      (ap (λ (r : Rows). row_of r b) here ∙ get_or-set_other (rows_at g v).needs c b x 0 (d e)))
      (λ n. ap (λ (r : Rows). row_of r b) (there u n))
      (same_or u v)

  -- at that row, or beside it
  by_row : (u b : ℕ) {Q : Type 0} → (u ≡ v → b ≡ c → Q) → ((u ≡ v → b ≡ c → ⊥) → Q) → Q
  by_row u b at beside = ⊎_elim (λ e. ⊎_elim (λ k. at e k) (λ k. beside (λ p q. k q)) (same_or b c)) (λ k. beside (λ p q. k p)) (same_or u v)

  -- where the new row has the vertex f more, its edges are those there were and the one from f
  pub edge_more : (f : ℕ) → ((i : ℕ) → Iff (Member x i) (Member (row g v c) i ⊎ (i ≡ f)))
      → (a u b : ℕ) → Iff (Edge (graph_with_row g v c x) a u b) (Edge g a u b ⊎ ((a ≡ f) × (u ≡ v) × (b ≡ c)))
  edge_more f h a u b =
      by_row u b
      (λ e k. rw (e, k, row_here)
      (record {
        to = λ m. ⊎_elim (λ p. inl p) (λ p. inr (p, refl, refl)) ((h a).to m);
        from = λ m. (h a).from (⊎_elim (λ p. inl p) (λ p. inr p.0) m);
      }))
      (λ d. rw (row-there u b d) (record { to = λ m. inl m; from = ⊎_elim (λ m. m) (λ p. absurd (d p.1 p.2)) }))

  -- where it has f less, they are those there were without the one from f
  pub edge-less : (f : ℕ) → ((i : ℕ) → Iff (Member x i) (Member (row g v c) i × (i ≡ f → ⊥)))
      → (a u b : ℕ) → Iff (Edge (graph_with_row g v c x) a u b) (Edge g a u b × ((a ≡ f) × (u ≡ v) × (b ≡ c) → ⊥))
  edge-less f h a u b =
      by_row u b
      (λ e k. rw (e, k, row_here)
      (record {
        to = λ m. let p = (h a).to m in (p.0, λ q. p.1 q.0);
        from = λ m. (h a).from (m.0, λ q. m.1 (q, refl, refl));
      }))
      (λ d. rw (row-there u b d) (record { to = λ m. (m, λ p. d p.1 p.2); from = λ m. m.0 }))

  pub row_count : edge_count (graph_with_row g v c x) + ones (row g v c) ≡ edge_count g + ones x
  unfolding graph_with_row edge_count new
  row_count =
      let inner = total-set ones (rows_at g v).needs c x 0 (let p = sh.colours v lv in omega arith) in
      let outer = total-set (λ r. total ones r.needs) g.rows v new (record { needs = [] }) (let p = sh.places in omega arith) in
      omega arith
