-- Lists of calls: what the accepted ones have left is what the setup shows.
-- Assumes nothing.
use mathlib.Core.Path.{◌≡◌, refl, sym, ap, subst, ◌∙◌}
use mathlib.Core.List.{List, [], ◌∷◌, ◌++◌}
use mathlib.Core.Logic.{◌⊎◌, inl, inr, ⊎_elim}
use Prim.Native.Nat.{ℕ, zero, suc}
use native.Mathlib.Omega.{arith}
use lib.ListN.{length-replicate}
use Rattle.vertex_set.specs.Set.{Iff}
use Rattle.vertex_set.proofs.Decisions.{iff-refl, iff-trans}
use Rattle.vertex_set.specs.Order.{Listed}
use Rattle.setup.specs.declared.Setup.{Setup}
use Rattle.setup.specs.Setup.{no_items, unused_vertex}
use Rattle.setup.proofs.Graphs.{empty-shaped}
use Rattle.derivations.proofs.Closures.{none-opens}
use Rattle.questions.specs.Asks.{Question, Asks}
use Rattle.questions.specs.Questions.{asks12}
use Rattle.questions.proofs.Asks.{first-no}
use Rattle.formed.specs.WellFormed.{WellFormed}
use Rattle.living.specs.Calls.{Call, TakeIn, TakeOut, AddEdge, RemoveEdge, asks_of, back, Done, CallOf, Drawing, drawing_of, after, Redrawn}
use Rattle.living.specs.Calls.{Redrawing}
use Rattle.living.proofs.Unique.{itself}
use Rattle.sheet_format.specs.Read.{Reading}
use Rattle.sheet_format.specs.Read.{read_sheet}
use Rattle.sheet_format.proofs.Meaning.{accepted-or-refused, empty-setup}
use Rattle.sheet_format.proofs.Question12.{accepted-formed}
use Rattle.histories.specs.Histories.{Ran, left_by, OpenedAlways, RefusedStays}
use Rattle.living.proofs.Kept.{step}

-- ---- a call on drawings that are the same

record SameDrawing (d e : Drawing) : Type 0 where
  edges : (f v c : ℕ) → Iff (d.Edges f v c) (e.Edges f v c)
  marks : (f v c : ℕ) → Iff (d.Marks f v c) (e.Marks f v c)
  held : (v : ℕ) → Iff (d.Held v) (e.Held v)

or-too : {P Q R : Type 0} → Iff P Q → Iff (P ⊎ R) (Q ⊎ R)
or-too i = record { to = ⊎_elim (λ p. inl (i.to p)) (λ r. inr r); from = ⊎_elim (λ q. inl (i.from q)) (λ r. inr r) }

and-too : {P Q R : Type 0} → Iff P Q → Iff (P × R) (Q × R)
and-too i = record { to = λ p. (i.to p.0, p.1); from = λ q. (i.from q.0, q.1) }

after_same : (c : Call) (d e : Drawing) → SameDrawing d e → SameDrawing (after c d) (after c e)
after_same (TakeIn v) d e h = record { edges = h.edges; marks = h.marks; held = λ i. or-too (h.held i) }
after_same (TakeOut v) d e h = record { edges = h.edges; marks = h.marks; held = λ i. and-too (h.held i) }
after_same (AddEdge f v c m) d e h = record { edges = λ a u b. or-too (h.edges a u b); marks = λ a u b. or-too (h.marks a u b); held = h.held }
after_same (RemoveEdge f v c) d e h = record { edges = λ a u b. and-too (h.edges a u b); marks = λ a u b. and-too (h.marks a u b); held = h.held }

-- one call after others
redrawn-on : (fresh s t : Setup) (d : Drawing) (c : Call) → Redrawn fresh d s → Redrawn s (after c (drawing_of s)) t → Redrawn fresh (after c d) t
redrawn-on fresh s t d c r q =
    let h = after_same c (drawing_of s) d (record { edges = r.edges; marks = r.marks; held = r.held }) in
    record {
      count = q.count ∙ r.count;
      vertices = q.vertices ∙ r.vertices;
      shaped = q.shaped;
      edges = λ f v b. iff-trans (q.edges f v b) (h.edges f v b);
      marks = λ f v b. iff-trans (q.marks f v b) (h.marks f v b);
      held = λ v. iff-trans (q.held v) (h.held v);
      opened = q.opened;
    }

-- ---- a list of calls

pub follow : (fresh : Setup) (calls : List Call) (numbers : List ℕ) (s t : Setup) (d : Drawing) → Redrawn fresh d s → Ran s calls numbers t
    → Redrawn fresh (left_by calls numbers d) t
follow fresh [] [] s t d h e = subst (Redrawn fresh d) e h
follow fresh [] (n ∷ numbers) s t d h e = absurd e
follow fresh (c ∷ calls) [] s t d h e = absurd e
follow fresh (c ∷ calls) (zero ∷ numbers) s t d h e =
    ⊎_elim (λ k. follow fresh calls numbers e.0 t (after c d) (redrawn-on fresh s e.0 d c h k.redrawn) e.2) (λ k. absurd (k.number refl))
    (step c s (record { number = 0; setup = e.0 }) e.1)
follow fresh (c ∷ calls) (suc n ∷ numbers) s t d h e =
    ⊎_elim (λ k. absurd (let z = k.number in omega arith)) (λ k. follow fresh calls numbers e.0 t d (subst (Redrawn fresh d) (sym k.same) h) e.2)
    (step c s (record { number = suc n; setup = e.0 }) e.1)

-- and from a well-formed setup to a well-formed one
pub still_formed : (calls : List Call) (numbers : List ℕ) (s t : Setup) → WellFormed s → Ran s calls numbers t → WellFormed t
still_formed [] [] s t w e = subst WellFormed e w
still_formed [] (n ∷ numbers) s t w e = absurd e
still_formed (c ∷ calls) [] s t w e = absurd e
still_formed (c ∷ calls) (n ∷ numbers) s t w e =
    still_formed calls numbers e.0 t (⊎_elim (λ k. k.formed) (λ k. subst WellFormed (sym k.same) w) (step c s (record { number = n; setup = e.0 }) e.1)) e.2

-- ---- every text

-- a setup without items is not well formed, so that a call on it is refused with 12
empty-unformed : (s : Setup) → s ≡ no_items → WellFormed s → ⊥
empty-unformed s e w = let k = ap (λ (x : Setup). x.count) e in let l = w.some in omega (arith, k, l)

first-twelve : (c : Call) (s : Setup) → (rest : List Question) × (asks_of c s ≡ asks12 s ∷ rest)
first-twelve (TakeIn v) s = (_, refl)
first-twelve (TakeOut v) s = (_, refl)
first-twelve (AddEdge f v c m) s = (_, refl)
first-twelve (RemoveEdge f v c) s = (_, refl)

refused-empty : (c : Call) (s : Setup) (r : Redrawing) → s ≡ no_items → CallOf c s r → r ≡ back s 12
refused-empty c s r e a =
    let q = first-twelve c s in
    first-no (back s) (Done c s) [] (asks12 s) q.0 r (subst (λ (qs : List Question). Asks (back s) qs (Done c s) r) q.1 a) tt (empty-unformed s e)

empty-stays : (calls : List Call) (numbers : List ℕ) (s t : Setup) → s ≡ no_items → Ran s calls numbers t → (t ≡ no_items) × ((n : ℕ) → Listed numbers n → n ≡ 12)
empty-stays [] [] s t e r = (sym r ∙ e, λ n l. absurd l)
empty-stays [] (n ∷ numbers) s t e r = absurd r
empty-stays (c ∷ calls) [] s t e r = absurd r
empty-stays (c ∷ calls) (n ∷ numbers) s t e r =
    let b = refused-empty c s (record { number = n; setup = r.0 }) e r.1 in
    let k = empty-stays calls numbers r.0 t (ap (λ (x : Redrawing). x.setup) b ∙ e) r.2 in
    (k.0, λ m. ⊎_elim (λ h. h ∙ ap (λ (x : Redrawing). x.number) b) (k.1 m))

empty-itself : Redrawn no_items (drawing_of no_items) no_items
empty-itself =
    record {
      count = refl;
      vertices = refl;
      shaped = record { places = length-replicate 64 unused_vertex; graph = empty-shaped; recovery = empty-shaped };
      edges = λ f v c. iff-refl;
      marks = λ f v c. iff-refl;
      held = λ v. iff-refl;
      opened = none-opens no_items.graph;
    }

-- the setup of a text, before any call
fresh-itself : (text : List ℕ) → Redrawn (read_sheet text).setup (drawing_of (read_sheet text).setup) (read_sheet text).setup
fresh-itself text =
    ⊎_elim (λ a. let s = (read_sheet text).setup in itself s (drawing_of s) (accepted-formed text (ap (λ (r : Reading). r.number) a.reading)) (λ f v c. iff-refl) (λ f v c. iff-refl) (λ v. iff-refl))
    (λ r. subst (λ (s : Setup). Redrawn s (drawing_of s) s) (sym (ap (λ (x : Reading). x.setup) r.reading ∙ empty-setup)) empty-itself)
    (accepted-or-refused.either text)

pub opened-always : OpenedAlways
opened-always text calls numbers s r =
    follow (read_sheet text).setup calls numbers (read_sheet text).setup s (drawing_of (read_sheet text).setup) (fresh-itself text) r

pub refused-stays : RefusedStays
refused-stays text n calls numbers s r = empty-stays calls numbers (read_sheet text).setup s (empty text n) r
  where
    empty : (text : List ℕ) → ((read_sheet text).number ≡ 0 → ⊥) → (read_sheet text).setup ≡ no_items
    empty text n =
        ⊎_elim (λ a. absurd (n (ap (λ (r : Reading). r.number) a.reading))) (λ r. ap (λ (x : Reading). x.setup) r.reading ∙ empty-setup) (accepted-or-refused.either text)

-- one call more, at the end
pub ran-more : (calls : List Call) (numbers : List ℕ) (s t u : Setup) (c : Call) (n : ℕ) → Ran s calls numbers t → CallOf c t (record { number = n; setup = u })
    → Ran s (calls ++ (c ∷ [])) (numbers ++ (n ∷ [])) u
ran-more [] [] s t u c n e a = (u, subst (λ (x : Setup). CallOf c x (record { number = n; setup = u })) (sym e) a, refl)
ran-more [] (m ∷ numbers) s t u c n e a = absurd e
ran-more (b ∷ calls) [] s t u c n e a = absurd e
ran-more (b ∷ calls) (m ∷ numbers) s t u c n e a = (e.0, e.1, ran-more calls numbers e.0 t u c n e.2 a)
