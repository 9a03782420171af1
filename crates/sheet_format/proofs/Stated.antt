-- The theorems of specs/Stated: valid rows state their setup, and no other.
-- Assumes nothing.
use mathlib.Core.Path.{◌≡◌, refl, sym, ap, subst, ◌∙◌}
use mathlib.Core.Bool.{true}
use mathlib.Core.List.Memᴰ
use mathlib.Core.List.{List, [], ◌∷◌, ◌++◌, map}
use mathlib.Core.Logic.{⊎_elim}
use Prim.Native.Nat.{ℕ, zero, suc, ◌-◌, ◌≤◌, ◌<◌}
use native.Mathlib.Omega.{arith}
use lib.ListN.{length, get_or, take, replicate}
use lib.Seq.{ext_get_or}
use Rattle.vertex_set.specs.Set.{Iff}
use Rattle.vertex_set.proofs.Cases.{by_test, less-or}
use Rattle.vertex_set.proofs.Sets.{none-in-zero, same_set}
use Rattle.setup.specs.declared.Vertex.{Vertex}
use Rattle.setup.specs.declared.Graph.{Graph}
use Rattle.setup.specs.Setup.{unused_vertex, vertex_at, row, Edge}
use Rattle.sheet_format.specs.Text.{same_text}
use Rattle.sheet_format.specs.Rows.{ItemRow, EdgeRow, Doc, Apart, Known, SameName, ValidEdge, Valid, number_in, vertex_of, vertices_of, recovery_rows, setup_of}
use Rattle.sheet_format.specs.Stated.{StandsAt, HasFields, Joins, StatedByRows, StatedUnique}
use Rattle.vertex_set.proofs.Decisions.{yes_of, no_of}
use Rattle.sheet_format.proofs.Tests.{text-decided}
use Rattle.sheet_format.proofs.Question12Lists.{In, of-each}
use Rattle.sheet_format.proofs.Question12Edges.{StatedEdge}
use Rattle.setup.proofs.Graphs.{graph_same}
use Rattle.sheet_format.proofs.Question12Items.{vertex-unused}
use Rattle.sheet_format.proofs.Question12Yielded.{in-recovery, recovery-in, graph-edges, recovery-placed, placed, well-formed-of-valid}

-- ---- where a row stands

pub stands-below : {A : Type 0} (xs : List A) (i : ℕ) (x : A) → StandsAt xs i x → i < length xs
stands-below [] i x h = absurd h
stands-below (y ∷ ys) zero x h = omega arith
stands-below (y ∷ ys) (suc i) x h = let l = stands-below ys i x h in omega arith

pub at_place : {A : Type 0} (xs : List A) (i : ℕ) → i < length xs → (x : A) × StandsAt xs i x
at_place [] i l = absurd (omega arith)
at_place (y ∷ ys) zero l = (y, refl)
at_place (y ∷ ys) (suc i) l = at_place ys i (omega arith)

pub stands-in : {A : Type 0} (xs : List A) (i : ℕ) (x : A) → StandsAt xs i x → In x xs
stands-in [] i x h = absurd h
stands-in (y ∷ ys) zero x h = Memᴰ.head (sym h)
stands-in (y ∷ ys) (suc i) x h = Memᴰ.tail (stands-in ys i x h)

pub in-stands : {A : Type 0} (xs : List A) (x : A) → In x xs → (i : ℕ) × StandsAt xs i x
in-stands [] x m = absurd (Memᴰ.not-nil m)
in-stands (y ∷ ys) x m = ⊎_elim (λ p. (0, sym p)) (λ k. let h = in-stands ys x k in (suc h.0, h.1)) (Memᴰ.cases_cons m)

-- one row more is taken
module _ {A : Type 0} where
  pub take_more : (xs : List A) (i : ℕ) (x : A) → StandsAt xs i x → take (suc i) xs ≡ take i xs ++ (x ∷ [])
  take_more [] i x h = absurd h
  take_more (y ∷ ys) zero x h = ap (λ (z : A). z ∷ []) h
  take_more (y ∷ ys) (suc i) x h = ap (λ (l : List A). y ∷ l) (take_more ys i x h)

-- ---- the name at a place, and the number of a name, which is the place of its item row

pub name_in : (xs : List ItemRow) (i : ℕ) (x : ItemRow) → StandsAt xs i x → get_or (map (λ (y : ItemRow). y.name) xs) i [] ≡ x.name
name_in [] i x h = absurd h
name_in (y ∷ ys) zero x h = ap (λ (z : ItemRow). z.name) h
name_in (y ∷ ys) (suc i) x h = name_in ys i x h

pub number-stands : (xs : List ItemRow) (n : List ℕ) → Known xs n → (x : ItemRow) × StandsAt xs (number_in xs n) x × (n ≡ x.name)
unfolding number_in
number-stands [] n k = absurd k
number-stands (y ∷ ys) n k =
    by_test (same_text y.name n)
    (λ t. rw t (y, refl, sym ((text-decided y.name n).yes t)))
    (λ t. rw t (⊎_elim (λ e. absurd ((text-decided y.name n).no t e)) (λ h. number-stands ys n h) k))

pub stands-number : (xs : List ItemRow) → Apart SameName xs → (i : ℕ) (x : ItemRow) → StandsAt xs i x → number_in xs x.name ≡ i
unfolding number_in
stands-number [] a i x h = absurd h
stands-number (y ∷ ys) a zero x h = rw (yes_of (same_text y.name x.name) (text-decided y.name x.name) (ap (λ (z : ItemRow). z.name) h))
stands-number (y ∷ ys) a (suc i) x h =
    let other = of-each (λ z. SameName y z → ⊥) ys a.0 x (stands-in ys i x h) in
    rw (no_of (same_text y.name x.name) (text-decided y.name x.name) other) (ap suc (stands-number ys a.1 i x h))

-- ---- items

vertex-at : (xs : List ItemRow) (rest : List Vertex) (i : ℕ) (x : ItemRow) → StandsAt xs i x → get_or (map vertex_of xs ++ rest) i unused_vertex ≡ vertex_of x
vertex-at [] rest i x h = absurd h
vertex-at (y ∷ ys) rest zero x h = ap vertex_of h
vertex-at (y ∷ ys) rest (suc i) x h = vertex-at ys rest i x h

fields-of : (x : ItemRow) (v : Vertex) → v ≡ vertex_of x → HasFields x v
fields-of x v e =
    record {
      kind = ap (λ (y : Vertex). y.kind) e;
      start = ap (λ (y : Vertex). y.start) e;
      loss = ap (λ (y : Vertex). y.loss) e;
      rank = ap (λ (y : Vertex). y.rank) e;
    }

of_fields : (x : ItemRow) (v : Vertex) → HasFields x v → v ≡ vertex_of x
of_fields x v h = λ i. record { kind = h.kind i; start = h.start i; loss = h.loss i; rank = h.rank i }

-- ---- the rows of a place without edges

no_edges : (g : Graph) (v c : ℕ) → ((f : ℕ) → Edge g f v c → ⊥) → row g v c ≡ 0
no_edges g v c h = same_set (row g v c) 0 (record { each = λ f m. absurd (h f m) }) (record { each = λ f m. absurd (none-in-zero f m) })

-- ---- valid rows state their setup

module _ (d : Doc) (w : Valid d) where
  joins_of : (es : List EdgeRow) (f v c : ℕ) (t : StatedEdge d.items es f v c) → In t.edge d.edges → Joins d f v c t.edge
  joins_of es f v c t m =
      let k = of-each (ValidEdge d.items) d.edges w.edges t.edge m in
      let p = in-stands d.edges t.edge m in
      let x = number-stands d.items t.edge.from k.from in
      let y = number-stands d.items t.edge.to k.to in
      record {
        place = p.0;
        stands = p.1;
        source = x.0;
        source_at = subst (λ (i : ℕ). StandsAt d.items i x.0) t.from x.1;
        target = y.0;
        target_at = subst (λ (i : ℕ). StandsAt d.items i y.0) t.to y.1;
        from = x.2;
        to = y.2;
        colour = t.colour;
      }

  of-joins : (es : List EdgeRow) (f v c : ℕ) (e : EdgeRow) → In e es → Joins d f v c e → StatedEdge d.items es f v c
  of-joins es f v c e m j =
      record {
        edge = e;
        stands = m;
        from = ap (number_in d.items) j.from ∙ stands-number d.items w.names f j.source j.source_at;
        to = ap (number_in d.items) j.to ∙ stands-number d.items w.names v j.target j.target_at;
        colour = j.colour;
      }

  edges : (f v c : ℕ) → Iff (Edge (setup_of d).graph f v c) ((e : EdgeRow) × Joins d f v c e)
  unfolding setup_of
  edges f v c =
      let g = graph-edges d.items d.edges (placed d w) f v c in
      record {
        to = λ m. let t = g.to m in (t.edge, joins_of d.edges f v c t t.stands);
        from = λ j. g.from (of-joins d.edges f v c j.0 (stands-in d.edges j.1.place j.0 j.1.stands) j.1);
      }

  recovery : (f v c : ℕ) → Iff (Edge (setup_of d).recovery f v c) ((e : EdgeRow) × Joins d f v c e × (e.rec ≡ true))
  unfolding setup_of
  recovery f v c =
      let rows = recovery_rows d.edges in
      let g = graph-edges d.items rows (recovery-placed d.items d.edges (placed d w)) f v c in
      record {
        to = λ m.
            let t = g.to m in
            let k = in-recovery d.edges t.edge t.stands in
            (t.edge, joins_of rows f v c t k.0, k.1);
        from = λ j.
            let k = stands-in d.edges j.1.place j.0 j.1.stands in
            g.from (of-joins rows f v c j.0 (recovery-in d.edges j.0 k j.2) j.1);
      }

pub stated-by-rows : StatedByRows
unfolding setup_of vertices_of
stated-by-rows d w =
    record {
      shaped = (well-formed-of-valid d w).shaped;
      count = refl;
      items = λ i x h. fields-of x (vertex_at (setup_of d) i) (vertex-at d.items (replicate (64 - length d.items) unused_vertex) i x h);
      edges = edges d w;
      recovery = recovery d w;
      unused = λ v l. vertex-unused d.items v l;
      empty_rows = λ v c l. (
        no_edges (setup_of d).graph v c (λ f m. behind v l ((edges d w f v c).to m).1),
        no_edges (setup_of d).recovery v c (λ f m. behind v l ((recovery d w f v c).to m).1),
      );
      unheld = refl;
      unopened = refl;
    }
  where
    behind : {f c : ℕ} {e : EdgeRow} (v : ℕ) → length d.items ≤ v → Joins d f v c e → ⊥
    behind v l j = let b = stands-below d.items v j.target j.target_at in omega arith

-- ---- and no other

pub stated-unique : StatedUnique
stated-unique d s t p q =
    λ i. record {
      count = same_count i;
      vertices = same-vertices i;
      graph = same_graph i;
      recovery = same-recovery i;
      held = record { 0 = (p.unheld ∙ sym q.unheld) i };
      opened = record { 0 = (p.unopened ∙ sym q.unopened) i };
    }
  where
    same_count : s.count ≡ t.count
    same_count = p.count ∙ sym q.count

    at : (i : ℕ) → vertex_at s i ≡ vertex_at t i
    at i =
        ⊎_elim
        (λ l. let x = at_place d.items i l in
        of_fields x.0 (vertex_at s i) (p.items i x.0 x.1) ∙ sym (of_fields x.0 (vertex_at t i) (q.items i x.0 x.1)))
        (λ l. let a = p.count in let b = q.count in p.unused i (omega arith) ∙ sym (q.unused i (omega arith)))
        (less-or i (length d.items))

    same-vertices : s.vertices ≡ t.vertices
    same-vertices = ext_get_or unused_vertex s.vertices t.vertices (p.shaped.places ∙ sym q.shaped.places) (λ i l. at i)

    same_graph : s.graph ≡ t.graph
    same_graph = graph_same s.graph t.graph p.shaped.graph q.shaped.graph (λ f v c.
        record { to = λ m. (q.edges f v c).from ((p.edges f v c).to m); from = λ m. (p.edges f v c).from ((q.edges f v c).to m) })

    same-recovery : s.recovery ≡ t.recovery
    same-recovery = graph_same s.recovery t.recovery p.shaped.recovery q.shaped.recovery (λ f v c.
        record { to = λ m. (q.recovery f v c).from ((p.recovery f v c).to m); from = λ m. (p.recovery f v c).from ((q.recovery f v c).to m) })
