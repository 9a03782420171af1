-- The edges of the graph that rows state, and how many there are.
-- Assumes nothing.
use mathlib.Core.Path.{◌≡◌, refl, sym, ap, subst, ◌∙◌}
use mathlib.Core.List.Memᴰ
use mathlib.Core.List.{List, [], ◌∷◌}
use mathlib.Core.Logic.{◌⊎◌, inl, inr, ⊎_elim}
use Prim.Native.Nat.{ℕ, ◌+◌, ◌^◌, ◌≤◌, ◌<◌}
use native.Mathlib.Omega.{arith}
use lib.ListN.{length, replicate, get_or-replicate}
use lib.Bits.{bit_or}
use lib.Count.{ones}
use Rattle.vertex_set.specs.Set.{Member, Iff}
use Rattle.vertex_set.proofs.Sets.{none-in-zero, in-or, in_one, ones-or-one}
use Rattle.vertex_set.proofs.Lists.{zeros}
use Rattle.setup.specs.declared.Rows.{Rows}
use Rattle.setup.specs.declared.Graph.{Graph}
use Rattle.setup.specs.Setup.{row, Edge, ShapedGraph, edge_count, empty_graph}
use Rattle.setup.proofs.Graphs.{edge-place, empty-shaped}
use Rattle.setup.specs.Inner.{graph_with_row}
use Rattle.setup.proofs.OneRow as one
use Rattle.sheet_format.specs.Rows.{ItemRow, EdgeRow, Each, number_in, with_edge, with_edges}
use Rattle.sheet_format.proofs.Question12Lists.{In}

-- eight empty rows
abbrev empty_rows : Rows
empty_rows = record { needs = replicate 8 0 }

-- ---- the graph without edges

pub empty-edges : (f v c : ℕ) → Edge empty_graph f v c → ⊥
unfolding empty_graph
empty-edges f v c m = none-in-zero f (subst (λ (x : ℕ). Member x f) (none (edge-place empty_graph empty-shaped.places f v c m)) m)
  where
    none : v < 64 → row empty_graph v c ≡ 0
    none l = rw (get_or-replicate 64 v empty_rows (record { needs = [] }) l) (zeros 8 c)

pub empty-count : edge_count empty_graph ≡ 0
unfolding empty_graph edge_count ones
empty-count = refl

-- ---- one edge more

module _ (g : Graph) (f v c : ℕ) (sh : ShapedGraph g) (lv : v < 64) (lc : c < 8) where
  pub edge-shaped : ShapedGraph (with_edge g f v c)
  unfolding with_edge graph_with_row
  edge-shaped = one.row-shaped g v c (bit_or (row g v c) (2 ^ f)) sh lv lc

  -- its edges are those there were, and the new one
  pub edge_more : (a u b : ℕ) → Iff (Edge (with_edge g f v c) a u b) (Edge g a u b ⊎ ((a ≡ f) × (u ≡ v) × (b ≡ c)))
  unfolding with_edge graph_with_row
  edge_more = one.edge_more g v c (bit_or (row g v c) (2 ^ f)) sh lv lc f (λ i.
      record {
        to = λ m. ⊎_elim (λ p. inl p) (λ p. inr ((in_one f i).to p)) ((in-or (row g v c) (2 ^ f) i).to m);
        from = λ m. (in-or (row g v c) (2 ^ f) i).from (⊎_elim (λ p. inl p) (λ p. inr ((in_one f i).from p)) m);
      })

  pub count-more : edge_count (with_edge g f v c) ≤ edge_count g + 1
  unfolding with_edge graph_with_row
  count-more =
      let count = one.row_count g v c (bit_or (row g v c) (2 ^ f)) sh lv lc in
      let more = ones-or-one f (row g v c) in
      omega arith

-- ---- the edges that rows state

-- One of the rows states the edge of colour c from f to v.
pub record StatedEdge (xs : List ItemRow) (es : List EdgeRow) (f v c : ℕ) : Type 0 where
  pub edge : EdgeRow
  pub stands : In edge es
  pub from : number_in xs edge.from ≡ f
  pub to : number_in xs edge.to ≡ v
  pub colour : edge.colour ≡ c

stated-first : (xs : List ItemRow) (e : EdgeRow) (es : List EdgeRow) (f v c : ℕ)
    → (f ≡ number_in xs e.from) × (v ≡ number_in xs e.to) × (c ≡ e.colour) → StatedEdge xs (e ∷ es) f v c
stated-first xs e es f v c p = record { edge = e; stands = Memᴰ.head refl; from = sym p.0; to = sym p.1; colour = sym p.2 }

stated-later : (xs : List ItemRow) (e : EdgeRow) (es : List EdgeRow) (f v c : ℕ) → StatedEdge xs es f v c → StatedEdge xs (e ∷ es) f v c
stated-later xs e es f v c s =
    record { edge = s.edge; stands = Memᴰ.tail s.stands; from = s.from; to = s.to; colour = s.colour }

stated-cases : (xs : List ItemRow) (e : EdgeRow) (es : List EdgeRow) (f v c : ℕ) → StatedEdge xs (e ∷ es) f v c
    → ((f ≡ number_in xs e.from) × (v ≡ number_in xs e.to) × (c ≡ e.colour)) ⊎ StatedEdge xs es f v c
stated-cases xs e es f v c s =
    ⊎_elim
    (λ p. inl (
      sym s.from ∙ ap (λ (x : EdgeRow). number_in xs x.from) p,
      sym s.to ∙ ap (λ (x : EdgeRow). number_in xs x.to) p,
      sym s.colour ∙ ap (λ (x : EdgeRow). x.colour) p,
    ))
    (λ m. inr (record { edge = s.edge; stands = m; from = s.from; to = s.to; colour = s.colour }))
    (Memᴰ.cases_cons s.stands)

-- The row's target and colour have a place in a graph.
pub record Placed (xs : List ItemRow) (e : EdgeRow) : Type 0 where
  pub to : number_in xs e.to < 64
  pub colour : e.colour < 8

pub edges-shaped : (xs : List ItemRow) (g : Graph) (es : List EdgeRow) → ShapedGraph g → Each (Placed xs) es → ShapedGraph (with_edges xs g es)
unfolding with_edges
edges-shaped xs g [] sh p = sh
edges-shaped xs g (e ∷ es) sh p =
    edges-shaped xs (with_edge g (number_in xs e.from) (number_in xs e.to) e.colour) es
    (edge-shaped g (number_in xs e.from) (number_in xs e.to) e.colour sh p.0.to p.0.colour) p.1

-- the graph with the rows' edges has those that it had, and those that they state
pub edges_more : (xs : List ItemRow) (g : Graph) (es : List EdgeRow) → ShapedGraph g → Each (Placed xs) es
    → (f v c : ℕ) → Iff (Edge (with_edges xs g es) f v c) (Edge g f v c ⊎ StatedEdge xs es f v c)
unfolding with_edges
edges_more xs g [] sh p f v c =
    record { to = λ m. inl m; from = ⊎_elim (λ m. m) (λ s. absurd (Memᴰ.not-nil s.stands)) }
edges_more xs g (e ∷ es) sh p f v c =
    let one = edge_more g (number_in xs e.from) (number_in xs e.to) e.colour sh p.0.to p.0.colour f v c in
    let rest = edges_more xs (with_edge g (number_in xs e.from) (number_in xs e.to) e.colour) es
    (edge-shaped g (number_in xs e.from) (number_in xs e.to) e.colour sh p.0.to p.0.colour) p.1 f v c in
    record {
      to = λ m. ⊎_elim
          (λ k. ⊎_elim (λ q. inl q) (λ q. inr (stated-first xs e es f v c q)) (one.to k))
          (λ s. inr (stated-later xs e es f v c s))
          (rest.to m);
      from = λ m. rest.from (⊎_elim
          (λ k. inl (one.from (inl k)))
          (λ s. ⊎_elim (λ q. inl (one.from (inr q))) (λ t. inr t) (stated-cases xs e es f v c s))
          m);
    }

-- each row adds at most one edge
pub edges-count : (xs : List ItemRow) (g : Graph) (es : List EdgeRow) → ShapedGraph g → Each (Placed xs) es → edge_count (with_edges xs g es) ≤ edge_count g + length es
unfolding with_edges
edges-count xs g [] sh p = omega arith
edges-count xs g (e ∷ es) sh p =
    let one = count-more g (number_in xs e.from) (number_in xs e.to) e.colour sh p.0.to p.0.colour in
    let rest = edges-count xs (with_edge g (number_in xs e.from) (number_in xs e.to) e.colour) es
    (edge-shaped g (number_in xs e.from) (number_in xs e.to) e.colour sh p.0.to p.0.colour) p.1 in
    omega arith
