-- A call keeps a setup well formed: it is refused and leaves it, or is accepted and redraws it.
-- Assumes nothing.
use mathlib.Core.Path.{◌≡◌, refl, sym, ap, subst, ◌∙◌}
use mathlib.Core.Bool.{Bool, true}
use mathlib.Core.List.{[]}
use mathlib.Core.Logic.{◌⊎◌, inl, inr, ⊎_elim}
use Prim.Native.Nat.{ℕ, ◌-◌, ◌^◌, ◌≤◌, ◌<◌}
use native.Mathlib.Omega.{arith}
use lib.Bits.{bit_or}
use Rattle.vertex_set.specs.Set.{Iff}
use Rattle.vertex_set.proofs.Cases.{less-or}
use Rattle.vertex_set.proofs.Sets.{in-or, in_one, ones-or-one, member-or}
use Rattle.vertex_set.proofs.Places.{in-removed, removed-within, ones-within}
use Rattle.setup.specs.Bounds.{most_edges}
use Rattle.setup.specs.declared.Graph.{Graph}
use Rattle.setup.specs.declared.Setup.{Setup}
use Rattle.setup.specs.Setup.{row, Edge, edge_count, chosen_count}
use Rattle.setup.specs.Inner.{graph_with_row}
use Rattle.setup.proofs.Graphs.{graph_same}
use Rattle.setup.proofs.OneRow.{row_count}
use Rattle.formed.specs.WellFormed.{WellFormed}
use Rattle.living.specs.Calls.{Call, TakeIn, TakeOut, AddEdge, RemoveEdge, Drawing, drawing_of, after, Redrawn, asks_of, back, Done, CallOf}
use Rattle.living.specs.Calls.{Redrawing}
use Rattle.questions.specs.Questions.{asks12}
use Rattle.questions.proofs.Asks.{AllYes, positive, not-zero, first-no, asks-either}
use Rattle.living.specs.Inner.{RowPlace, EdgeMore, EdgeLess, Placed}
use Rattle.living.proofs.Drawing.{both, row-place, more-shaped, more_edges, less-shaped, less-edges}

-- Where the drawing that is left keeps the rules, so does the setup.
-- t with count and vertices of s, which it has
abbrev as_it_is : Setup → Setup → Setup
as_it_is s t = record { count = s.count; vertices = s.vertices; graph = t.graph; recovery = t.recovery; held = t.held; opened = t.opened }

kept : (s t : Setup) (d : Drawing) → WellFormed s → Redrawn s d t → ((f v c : ℕ) → d.Edges f v c → (f < s.count) × (v < s.count))
    → ((f v c : ℕ) → d.Marks f v c → d.Edges f v c) → ((v : ℕ) → d.Held v → v < s.count) → edge_count t.graph ≤ most_edges → WellFormed t
unfolding chosen_count
kept s t d w r ends marked holds few = subst WellFormed whole formed
  where
    whole : as_it_is s t ≡ t
    whole = λ i. record { count = sym r.count i; vertices = sym r.vertices i; graph = t.graph; recovery = t.recovery; held = t.held; opened = t.opened }

    formed : WellFormed (as_it_is s t)
    formed =
        record {
          shaped = record { places = w.shaped.places; graph = r.shaped.graph; recovery = r.shaped.recovery };
          some = w.some;
          most = w.most;
          used = w.used;
          unused = w.unused;
          ends = λ f v c m. ends f v c ((r.edges f v c).to m);
          marked = λ f v c m. (r.edges f v c).from (marked f v c ((r.marks f v c).to m));
          edges = few;
          initial = w.initial;
          losable = w.losable;
          holds = record { each = λ v m. holds v ((r.held v).to m) };
          opens = r.opened;
        }

-- a graph that is left as it was has no more edges
same_edges : (s t : Setup) (d : Drawing) → WellFormed s → Redrawn s d t → ((f v c : ℕ) → Iff (Edge s.graph f v c) (d.Edges f v c)) → edge_count t.graph ≤ most_edges
same_edges s t d w r e =
    subst (λ (g : Graph). edge_count g ≤ most_edges)
    (graph_same s.graph t.graph w.shaped.graph r.shaped.graph (λ f v c. both (e f v c) (r.edges f v c))) w.edges

-- ---- what each call keeps

module _ (s t : Setup) (w : WellFormed s) where
  in_kept : (v : ℕ) → v < s.count → Redrawn s (after (TakeIn v) (drawing_of s)) t → WellFormed t
  in_kept v l r =
      kept s t (after (TakeIn v) (drawing_of s)) w r w.ends w.marked
      (λ i. ⊎_elim (w.holds.each i) (λ e. omega arith))
      (same_edges s t (after (TakeIn v) (drawing_of s)) w r (λ f u c. record { to = λ m. m; from = λ m. m }))

  out-kept : (v : ℕ) → Redrawn s (after (TakeOut v) (drawing_of s)) t → WellFormed t
  out-kept v r =
      kept s t (after (TakeOut v) (drawing_of s)) w r w.ends w.marked (λ i p. w.holds.each i p.0)
      (same_edges s t (after (TakeOut v) (drawing_of s)) w r (λ f u c. record { to = λ m. m; from = λ m. m }))

  module _ (f v c : ℕ) (q : Placed s f v c) where
    place : RowPlace v c
    place = row-place s f v c w q

    needed : ℕ
    needed = row s.graph v c

    more : Graph
    more = graph_with_row s.graph v c (bit_or needed (2 ^ f))

    is-more : EdgeMore s.graph f v c more
    unfolding more needed
    is-more =
        record {
          needed = bit_or needed (2 ^ f);
          each = λ i. record {
            to = λ k. ⊎_elim (λ p. inl p) (λ p. inr ((in_one f i).to p)) ((in-or needed (2 ^ f) i).to k);
            from = λ k. (in-or needed (2 ^ f) i).from (⊎_elim (λ p. inl p) (λ e. inr ((in_one f i).from e)) k);
          };
          is = refl;
        }

    more-few : edge_count s.graph < most_edges → edge_count more ≤ most_edges
    unfolding more needed
    more-few few =
        let count = row_count s.graph v c (bit_or needed (2 ^ f)) w.shaped.graph place.vertex place.colour in
        let one = ones-or-one f needed in
        omega arith

    add_kept : (m : Bool) → edge_count s.graph < most_edges → Redrawn s (after (AddEdge f v c m) (drawing_of s)) t → WellFormed t
    add_kept m few r =
        kept s t (after (AddEdge f v c m) (drawing_of s)) w r
        (λ a u b. ⊎_elim (w.ends a u b) (λ e. let x = e.from in let y = e.to in let k = q.from in let l = q.to in (omega arith, omega arith)))
        (λ a u b. ⊎_elim (λ k. inl (w.marked a u b k)) (λ p. inr p.0))
        w.holds.each
        (subst (λ (g : Graph). edge_count g ≤ most_edges)
        (graph_same more t.graph (more-shaped s.graph f v c w.shaped.graph place more is-more) r.shaped.graph
        (λ a u b. both (more_edges s.graph f v c w.shaped.graph place more is-more a u b) (r.edges a u b)))
        (more-few few))

    less : Graph
    less = graph_with_row s.graph v c (needed - 2 ^ f)

    is-less : Edge s.graph f v c → EdgeLess s.graph f v c less
    unfolding less needed
    is-less e = record { needed = needed - 2 ^ f; each = λ i. in-removed needed f i e; is = refl }

    less-few : Edge s.graph f v c → edge_count less ≤ most_edges
    unfolding less needed
    less-few e =
        let count = row_count s.graph v c (needed - 2 ^ f) w.shaped.graph place.vertex place.colour in
        let fewer = ones-within (needed - 2 ^ f) needed (removed-within needed f e) in
        let few = w.edges in
        omega arith

    remove-kept : Edge s.graph f v c → Redrawn s (after (RemoveEdge f v c) (drawing_of s)) t → WellFormed t
    remove-kept e r =
        kept s t (after (RemoveEdge f v c) (drawing_of s)) w r
        (λ a u b p. w.ends a u b p.0) (λ a u b p. (w.marked a u b p.0, p.1)) w.holds.each
        (subst (λ (g : Graph). edge_count g ≤ most_edges)
        (graph_same less t.graph (less-shaped s.graph f v c w.shaped.graph place less (is-less e)) r.shaped.graph
        (λ a u b. both (less-edges s.graph f v c w.shaped.graph place less (is-less e) a u b) (r.edges a u b)))
        (less-few e))

-- ---- a call on a well-formed setup

-- It was accepted, and has left the drawing that it says.
pub record Took (c : Call) (s : Setup) (r : Redrawing) : Type 0 where
  pub number : r.number ≡ 0
  pub redrawn : Redrawn s (after c (drawing_of s)) r.setup
  pub formed : WellFormed r.setup

-- It was refused.
pub record Stayed (s : Setup) (r : Redrawing) : Type 0 where
  pub number : r.number ≡ 0 → ⊥
  pub same : r.setup ≡ s

well-kept : (c : Call) (s t : Setup) → AllYes (asks_of c s) → Redrawn s (after c (drawing_of s)) t → WellFormed t
well-kept (TakeIn v) s t y = in_kept s t y.0 v y.1.0
well-kept (TakeOut v) s t y = out-kept s t y.0 v
well-kept (AddEdge f v c m) s t y = add_kept s t y.0 f v c (record { from = y.1.0; to = y.1.1.0; colour = y.1.1.1.0 }) m y.1.1.1.1.1.0
well-kept (RemoveEdge f v c) s t y = remove-kept s t y.0 f v c (record { from = y.1.0; to = y.1.1.0; colour = y.1.1.1.0 }) y.1.1.1.1.0

-- no question has the number 0
pub living-numbered : (c : Call) (s : Setup) → positive (asks_of c s) ≡ true
living-numbered (TakeIn v) s = refl
living-numbered (TakeOut v) s = refl
living-numbered (AddEdge f v c m) s = refl
living-numbered (RemoveEdge f v c) s = refl

pub step : (c : Call) (s : Setup) (r : Redrawing) → CallOf c s r → Took c s r ⊎ Stayed s r
step c s r a =
    ⊎_elim (λ h. inl (record { number = h.1.numbered; redrawn = h.1.redrawn; formed = well-kept c s r.setup h.0 h.1.redrawn }))
    (λ h. inr (record {
      number = λ z. not-zero (asks_of c s) h.0 (living-numbered c s) h.1 (sym (ap (λ (x : Redrawing). x.number) h.2) ∙ z);
      same = ap (λ (x : Redrawing). x.setup) h.2;
    }))
    (asks-either (back s) (Done c s) (asks_of c s) r a)

-- ---- a call on a malformed setup

pub refused-malformed : (c : Call) (s : Setup) (r : Redrawing) → CallOf c s r → (WellFormed s → ⊥) → r ≡ back s 12
refused-malformed (TakeIn v) s r a m = first-no (back s) (Done (TakeIn v) s) [] (asks12 s) _ r a tt m
refused-malformed (TakeOut v) s r a m = first-no (back s) (Done (TakeOut v) s) [] (asks12 s) _ r a tt m
refused-malformed (AddEdge f v c k) s r a m = first-no (back s) (Done (AddEdge f v c k) s) [] (asks12 s) _ r a tt m
refused-malformed (RemoveEdge f v c) s r a m = first-no (back s) (Done (RemoveEdge f v c) s) [] (asks12 s) _ r a tt m
