-- The setup that valid rows state is well formed.
-- Assumes nothing.
use mathlib.Core.Path.{◌≡◌, refl, sym, ap, subst, ◌∙◌}
use mathlib.Core.Bool.{Bool, true, false, cond}
use mathlib.Core.List.Memᴰ
use mathlib.Core.List.{List, [], ◌∷◌}
use mathlib.Core.Logic.{inr, ⊎_elim}
use Prim.Native.Nat.{ℕ, ◌<◌}
use native.Mathlib.Omega.{arith}
use lib.ListN.{length}
use Rattle.vertex_set.specs.Set.{Iff}
use Rattle.vertex_set.proofs.Cases.{by_test}
use Rattle.vertex_set.proofs.Sets.{none-in-zero}
use Rattle.derivations.proofs.Closures.{none-opens}
use Rattle.setup.specs.Setup.{Edge, chosen_count, given, empty_graph}
use Rattle.formed.specs.WellFormed.{ValidVertex, WellFormed}
use Rattle.sheet_format.specs.Rows.{ItemRow, EdgeRow, Doc, Each, ValidItem, ValidEdge, Valid, start_count, loss_count, vertex_of, with_edges, recovery_rows, setup_of}
use Rattle.sheet_format.proofs.Question12Lists.{In, each_of, of-each}
use Rattle.setup.proofs.Graphs.{empty-shaped}
use Rattle.sheet_format.proofs.Question12Edges.{StatedEdge, Placed, empty-edges, empty-count, edges-shaped, edges_more, edges-count}
use Rattle.sheet_format.proofs.Question12Items.{known-number, vertices-length, vertex-unused, vertex-used, vertices-total}

-- ---- recovery rows

pub recovery-yes : (x : EdgeRow) (es : List EdgeRow) → x.rec ≡ true → recovery_rows (x ∷ es) ≡ x ∷ recovery_rows es
unfolding recovery_rows
recovery-yes x es t = ap (λ (b : Bool). cond b (x ∷ recovery_rows es) (recovery_rows es)) t

pub recovery-no : (x : EdgeRow) (es : List EdgeRow) → x.rec ≡ false → recovery_rows (x ∷ es) ≡ recovery_rows es
unfolding recovery_rows
recovery-no x es t = ap (λ (b : Bool). cond b (x ∷ recovery_rows es) (recovery_rows es)) t

pub in-recovery : (es : List EdgeRow) (e : EdgeRow) → In e (recovery_rows es) → In e es × (e.rec ≡ true)
unfolding recovery_rows
in-recovery [] e m = absurd (Memᴰ.not-nil m)
in-recovery (x ∷ es) e m =
    by_test x.rec
    (λ t. ⊎_elim
    (λ p. (Memᴰ.head p, ap (λ (y : EdgeRow). y.rec) p ∙ t))
    (λ k. let h = in-recovery es e k in (Memᴰ.tail h.0, h.1))
    (Memᴰ.cases_cons (subst (In e) (recovery-yes x es t) m)))
    (λ t. let h = in-recovery es e (subst (In e) (recovery-no x es t) m) in (Memᴰ.tail h.0, h.1))

pub recovery-in : (es : List EdgeRow) (e : EdgeRow) → In e es → e.rec ≡ true → In e (recovery_rows es)
unfolding recovery_rows
recovery-in [] e m r = m
recovery-in (x ∷ es) e m r =
    ⊎_elim
    (λ p. subst (In e) (sym (recovery-yes x es (sym (ap (λ (y : EdgeRow). y.rec) p) ∙ r))) (Memᴰ.head p))
    (λ k.
    let h = recovery-in es e k r in
    by_test x.rec
    (λ t. subst (In e) (sym (recovery-yes x es t)) (Memᴰ.tail h))
    (λ t. subst (In e) (sym (recovery-no x es t)) h))
    (Memᴰ.cases_cons m)

-- ---- the edges of a doc's graphs are those that its rows state

pub graph-edges : (xs : List ItemRow) (es : List EdgeRow) → Each (Placed xs) es → (f v c : ℕ) → Iff (Edge (with_edges xs empty_graph es) f v c) (StatedEdge xs es f v c)
graph-edges xs es p f v c =
    let h = edges_more xs empty_graph es empty-shaped p f v c in
    record { to = λ m. ⊎_elim (λ k. absurd (empty-edges f v c k)) (λ s. s) (h.to m); from = λ s. h.from (inr s) }

pub recovery-placed : (xs : List ItemRow) (es : List EdgeRow) → Each (Placed xs) es → Each (Placed xs) (recovery_rows es)
recovery-placed xs es p = each_of (Placed xs) (recovery_rows es) (λ e m. of-each (Placed xs) es p e (in-recovery es e m).0)

module _ (d : Doc) (w : Valid d) where
  pub placed : Each (Placed d.items) d.edges
  placed = each_of (Placed d.items) d.edges (λ e m.
      let h = of-each (ValidEdge d.items) d.edges w.edges e m in
      let l = known-number d.items e.to h.to in
      let k = w.most in
      let b = h.colour in
      record { to = omega arith; colour = omega arith })

  ends : (f v c : ℕ) → StatedEdge d.items d.edges f v c → (f < length d.items) × (v < length d.items)
  ends f v c s =
      let h = of-each (ValidEdge d.items) d.edges w.edges s.edge s.stands in
      (rw s.from at (known-number d.items s.edge.from h.from), rw s.to at (known-number d.items s.edge.to h.to))

  marked : (f v c : ℕ) → StatedEdge d.items (recovery_rows d.edges) f v c → StatedEdge d.items d.edges f v c
  marked f v c s =
      record { edge = s.edge; stands = (in-recovery d.edges s.edge s.stands).0; from = s.from; to = s.to; colour = s.colour }

  pub well-formed-of-valid : WellFormed (setup_of d)
  unfolding setup_of chosen_count start_count loss_count
  well-formed-of-valid =
      record {
        shaped = record {
          places = vertices-length d.items w.most;
          graph = edges-shaped d.items empty_graph d.edges empty-shaped placed;
          recovery = edges-shaped d.items empty_graph (recovery_rows d.edges) empty-shaped (recovery-placed d.items d.edges placed);
        };
        some = w.some;
        most = w.most;
        used = λ v l. vertex-used ValidVertex d.items v l
            (each_of (λ x. ValidVertex (vertex_of x)) d.items (λ x m.
            let h = of-each ValidItem d.items w.items x m in record { start = h.start; loss = h.loss; rank = h.rank }));
        unused = λ v l k. vertex-unused d.items v k;
        ends = λ f v c m. ends f v c ((graph-edges d.items d.edges placed f v c).to m);
        marked = λ f v c m. (graph-edges d.items d.edges placed f v c).from
            (marked f v c ((graph-edges d.items (recovery_rows d.edges) (recovery-placed d.items d.edges placed) f v c).to m));
        edges =
            let n = edges-count d.items empty_graph d.edges empty-shaped placed in
            let z = empty-count in
            let k = w.many in
            omega arith;
        initial = rw (vertices-total (λ x. given x.start) d.items refl) w.starts;
        losable = rw (vertices-total (λ x. given x.loss) d.items refl) w.losses;
        holds = record { each = λ v m. absurd (none-in-zero v m) };
        opens = none-opens _;
      }
