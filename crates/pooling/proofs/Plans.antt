-- What a plan says: agreement, bounds, colours, and the text that is written by it.
-- Assumes nothing.
use mathlib.Core.Path.{◌≡◌, refl, sym, ap, ◌∙◌, subst}
use mathlib.Core.Bool.{Bool, true, false}
use mathlib.Core.List.{List, [], ◌∷◌, ◌++◌, map}
use Prim.Native.Nat.{ℕ, zero, suc, ◌+◌, ◌-◌, ◌≤◌}
use native.Mathlib.Omega.{arith}
use lib.ListN.{length, get_or, take, drop, length-append, length-map, length-take, length-drop}
use lib.Seq.{take_all, drop-length}
use Rattle.std.specs.Prelude.{Option, Some, None, Ok, Err, replicate}
use Rattle.questions.specs.declared.Refusal.TheVariants.{Disagree, PoolBound}
use Rattle.vertex_set.specs.Set.{Decides}
use Rattle.setup.specs.declared.Setup.{Setup}
use Rattle.setup.specs.Setup.{unused_vertex, given, total}
use Rattle.setup.proofs.Counts.{total-append}
use Rattle.sheet_format.specs.Text.{lines_of}
use Rattle.sheet_format.specs.Rows.{ItemRow, EdgeRow, Doc, Each, ValidEdge, Valid, SameName, vertex_of, start_count, loss_count, item_lines, edge_lines, render, number_in}
use Rattle.sheet_format.specs.Questions.{is_known}
use Rattle.sheet_format.specs.Stated.{StandsAt}
use Rattle.sheet_format.proofs.Lists.{each_append, each_right, each_map}
use Rattle.sheet_format.proofs.Tests.{known-decided}
use Rattle.sheet_format.proofs.Rows.{edge_line}
use Rattle.sheet_format.proofs.Question12Lists.{each_of, of-each}
use Rattle.sheet_format.proofs.Stated.{stands-below, at_place, stands-in, in-stands, number-stands, stands-number}
use Rattle.pool_format.specs.Rows.{Agree, remaining, recoloured, pooled, Fits}
use Rattle.pool_format.specs.Inner.{shared_place, PlacesAmong}
use Rattle.sheet_lines.specs.declared.item_keys.Keys.{Keys}
use Rattle.sheet_lines.specs.Inner.Keys.{Accepts, SheetKeys}
use Rattle.sheet_lines.proofs.Accepted.{setup-of, count_of}
use Rattle.pool_items.specs.declared.Remaining.{Remaining}
use Rattle.pool_items.specs.declared.Shared.{Shared}
use Rattle.pool_items.specs.Inner.Keys.{KeyPlaces}
use Rattle.pool_items.specs.Inner.Items.{AllAgree, ItemCounts, CountsRemaining}
use Rattle.pool_items.proofs.Items.{placed-at, known-place}
use Rattle.pool_colours.specs.Inner.Colours.{Both, ColoursOf}
use Rattle.pool_text.specs.Inner.{fresh_rows, with_digits}
use Rattle.pooling.specs.Inner.{Starts, CountsInBounds, BoundsHold, BoundsFor, BoundsOf, pooled_text, PlanOf, disagrees, beyond, ready}
use Rattle.pooling.proofs.Sheets.{vertex-of, tail, front, front-is, behind-is, from-inside, rows_of, within, row_is, edge-lines, edge-bytes}
use Rattle.pooling.proofs.Texts.{fresh-rows, edges-put, edges-can, together-is, same-long}

-- ---- agreement

-- Two accepted sheets with their rows.
pub record Sheets (first second : List ℕ) (a b : Setup) (d e : Doc) : Type 0 where
  pub accepts_first : Accepts first a
  pub accepts_second : Accepts second b
  pub valid_first : Valid d
  pub valid_second : Valid e
  pub is_first : first ≡ render d
  pub is_second : second ≡ render e

module _ (first second : List ℕ) (a b : Setup) (d e : Doc) (m : Sheets first second a b d e) (nb : ℕ) (places : List (Option ℕ)) (q : nb ≡ b.count) (p : PlacesAmong d.items e.items places) where
  size_first : a.count ≡ length d.items
  size_first = count_of first a d m.accepts_first m.valid_first m.is_first

  size_second : b.count ≡ length e.items
  size_second = count_of second b e m.accepts_second m.valid_second m.is_second

  pub agree_of : AllAgree a.vertices b.vertices nb places → Agree d.items e.items
  agree_of h =
      each_of (λ x. Each (λ y. SameName x y → vertex_of x ≡ vertex_of y) e.items) d.items (λ x k.
      each_of (λ y. SameName x y → vertex_of x ≡ vertex_of y) e.items (λ y l s.
      let i = in-stands d.items x k in
      let j = in-stands e.items y l in
      let at : get_or places j.0 None ≡ Some i.0 = p.each j.0 y j.1 ∙
      placed-at d.items y.name i.0 (ap (number_in d.items) (sym s) ∙ stands-number d.items m.valid_first.names i.0 x i.1) (stands-below d.items i.0 x i.1) in
      let w = stands-below e.items j.0 y j.1 in
      let g = size_second in
      sym (vertex-of first a d m.accepts_first m.valid_first m.is_first i.0 x i.1) ∙
      h.each j.0 i.0 (omega arith) at ∙
      vertex-of second b e m.accepts_second m.valid_second m.is_second j.0 y j.1))

  pub of_agree : Agree d.items e.items → AllAgree a.vertices b.vertices nb places
  of_agree h =
      record {
        each = λ j i l k.
            let g = size_second in
            let y = at_place e.items j (omega arith) in
            let t = known-place d.items e.items places j i y.0 p y.1 k in
            let known = (known-decided d.items y.0.name).yes t.0 in
            let x = number-stands d.items y.0.name known in
            ap (λ (n : ℕ). get_or a.vertices n unused_vertex) t.1 ∙
            vertex-of first a d m.accepts_first m.valid_first m.is_first (number_in d.items y.0.name) x.0 x.1 ∙
            of-each (λ z. SameName x.0 z → vertex_of x.0 ≡ vertex_of z) e.items
            (of-each (λ w. Each (λ z. SameName w z → vertex_of w ≡ vertex_of z) e.items) d.items h x.0 (stands-in d.items (number_in d.items y.0.name) x.0 x.1))
            y.0 (stands-in e.items j y.0 y.1) (sym x.2) ∙
            sym (vertex-of second b e m.accepts_second m.valid_second m.is_second j y.0 y.1);
      }

-- ---- bounds

-- nothing is known of no items
nowhere : (n j : ℕ) → get_or {A = Option ℕ} (replicate n None) j None ≡ None
nowhere zero j = refl
nowhere (suc n) zero = refl
nowhere (suc n) (suc j) = nowhere n j

places-none : (ys : List ItemRow) → PlacesAmong [] ys (replicate 64 None)
unfolding shared_place is_known
places-none ys = record { each = λ j y k. nowhere 64 j }

remaining-all : (ys : List ItemRow) → remaining [] ys ≡ ys
unfolding remaining is_known
remaining-all [] = refl
remaining-all (y ∷ ys) = ap (λ (l : List ItemRow). y ∷ l) (remaining-all ys)

-- the second sheet's remaining items, and the first sheet's own ones
pub record Counted (d e : Doc) (own more : Remaining) : Type 0 where
  pub first : ItemCounts d.items own
  pub second : ItemCounts (remaining d.items e.items) more

pub counted : (first second : List ℕ) (a b : Setup) (d e : Doc) (begins from : List ℕ) (places : List (Option ℕ)) (own more : Remaining) → Sheets first second a b d e
    → Starts first a begins → Starts second b from → PlacesAmong d.items e.items places
    → CountsRemaining a.vertices a.count (replicate 64 None) begins own → CountsRemaining b.vertices b.count places from more → Counted d e own more
counted first second a b d e begins from places own more m s t p x y =
    record {
      first = subst (λ (l : List ItemRow). ItemCounts l own) (remaining-all d.items)
          (x.each [] d.items (places-none d.items) (count_of first a d m.accepts_first m.valid_first m.is_first)
          (rows_of first a d m.accepts_first m.valid_first m.is_first begins s));
      second = y.each d.items e.items p (count_of second b e m.accepts_second m.valid_second m.is_second) (rows_of second b e m.accepts_second m.valid_second m.is_second from t);
    }

-- so the bounds that were asked are those of the pooled rows
pub bounds-are : (d e : Doc) (own more : Remaining) (edges : ℕ) → Counted d e own more → edges ≡ length d.edges + length e.edges → (ok : Bool)
    → Decides (CountsInBounds (own.items + more.items) (own.starts + more.starts) (own.losses + more.losses) edges) ok → Decides (BoundsHold (pooled d e)) ok
unfolding pooled start_count loss_count
bounds-are d e own more edges c q ok h =
    let rest = remaining d.items e.items in
    let items : own.items + more.items ≡ length (d.items ++ rest) = let l = length-append d.items rest in let u = c.first.items in let w = c.second.items in omega arith in
    let starts : own.starts + more.starts ≡ total (λ x. given x.start) (d.items ++ rest) =
    let l = total-append (λ x. given x.start) d.items rest in let u : own.starts ≡ total (λ x. given x.start) d.items = c.first.starts in
    let w : more.starts ≡ total (λ x. given x.start) rest = c.second.starts in omega arith in
    let losses : own.losses + more.losses ≡ total (λ x. given x.loss) (d.items ++ rest) =
    let l = total-append (λ x. given x.loss) d.items rest in let u : own.losses ≡ total (λ x. given x.loss) d.items = c.first.losses in
    let w : more.losses ≡ total (λ x. given x.loss) rest = c.second.losses in omega arith in
    let rows : edges ≡ length (d.edges ++ map (recoloured d e) e.edges) =
    let l = length-append d.edges (map (recoloured d e) e.edges) in let n = length-map e.edges (recoloured d e) in omega arith in
    rw (← items, ← starts, ← losses, ← rows) h

-- ---- the plan

no-bounds : (d e : Doc) → (BoundsHold (pooled d e) → ⊥) → Fits (pooled d e) → ⊥
no-bounds d e n f = n (record { most = f.most; starts = f.starts; losses = f.losses; many = f.many })

-- the colours of both sheets' rows
small-first : (d : Doc) → Valid d → Each (λ (x : EdgeRow). x.colour ≤ 7) d.edges
small-first d v = each_map (ValidEdge d.items) (λ (x : EdgeRow). x.colour ≤ 7) (λ x h. h.colour) d.edges v.edges

no-ninth : (d e : Doc) → (Each (λ (x : EdgeRow). x.colour ≤ 7) (map (recoloured d e) e.edges) → ⊥) → Fits (pooled d e) → ⊥
unfolding pooled
no-ninth d e n f = n (each_right (λ (x : EdgeRow). x.colour ≤ 7) d.edges (map (recoloured d e) e.edges) f.colours)

fits-of : (d e : Doc) → Valid d → BoundsHold (pooled d e) → Each (λ (x : EdgeRow). x.colour ≤ 7) (map (recoloured d e) e.edges) → Fits (pooled d e)
unfolding pooled
fits-of d e v b c =
    record {
      most = b.most;
      starts = b.starts;
      losses = b.losses;
      many = b.many;
      colours = each_append (λ (x : EdgeRow). x.colour ≤ 7) d.edges (map (recoloured d e) e.edges) (small-first d v) c;
    }

no_lines : (d : Doc) → item_lines [] ++ tail d ≡ tail d
unfolding item_lines
no_lines d = refl

module _ (first second : List ℕ) (a b : Setup) (own keys : Keys) (shared : Shared) (accepts : Accepts first a × Accepts second b)
    (f : SheetKeys first a.count own) (g : SheetKeys second b.count keys) (p : KeyPlaces own.keys keys.keys shared.places) (q : shared.count ≡ b.count) where
  sheets : (d e : Doc) → Valid d → Valid e → first ≡ render d → second ≡ render e → Sheets first second a b d e
  sheets d e v w t u = record { accepts_first = accepts.0; accepts_second = accepts.1; valid_first = v; valid_second = w; is_first = t; is_second = u }

  starts_first : Starts first a own.from
  starts_first = record { each = f.starts }

  starts-second : Starts second b keys.from
  starts-second = record { each = g.starts }

  pub both-start : Starts first a own.from × Starts second b keys.from
  both-start = (starts_first, starts-second)

  module _ (d e : Doc) (v : Valid d) (w : Valid e) (t : first ≡ render d) (u : second ≡ render e) where
    place : PlacesAmong d.items e.items shared.places
    place =
        p.places d.items e.items (f.keys d v t (count_of first a d accepts.0 v t)) (g.keys e w u (count_of second b e accepts.1 w u))

    both : Both d e keys.keys.low keys.keys.high keys.keys.count shared.places a.graph b.graph
    both =
        record {
          valid_first = v;
          valid_second = w;
          keys = g.keys e w u (count_of second b e accepts.1 w u);
          placed = place;
          first_graph = ap (λ (x : Setup). x.graph) (setup-of first a d accepts.0 v t);
          second_graph = ap (λ (x : Setup). x.graph) (setup-of second b e accepts.1 w u);
        }

    agrees : (r : Bool) → Decides (AllAgree a.vertices b.vertices shared.count shared.places) r → r ≡ true → Agree d.items e.items
    agrees r h n = agree_of first second a b d e (sheets d e v w t u) shared.count shared.places q place (h.yes n)

  -- 22
  pub plan-disagrees : (r : Bool) → Decides (AllAgree a.vertices b.vertices shared.count shared.places) r → r ≡ false → PlanOf first second (Err Disagree)
  plan-disagrees r h n =
      record {
        each = λ d e v w t u.
            disagrees refl (λ y. h.no n (of_agree first second a b d e (sheets d e v w t u) shared.count shared.places q (place d e v w t u) y));
      }

  module _ (r : Bool) (h : Decides (AllAgree a.vertices b.vertices shared.count shared.places) r) (n : r ≡ true) (s : Option ℕ) (k : BoundsOf first second shared.places s) where
    -- 23, by a bound
    pub plan-beyond : s ≡ None → PlanOf first second (Err PoolBound)
    plan-beyond m =
        record {
          each = λ d e v w t u.
              beyond refl (agrees d e v w t u r h n) (no-bounds d e (rw m at (k.each d e v w t u (place d e v w t u))));
        }

    module _ (bytes : ℕ) (m : s ≡ Some bytes) (start : ℕ) (o : start ≡ get_or keys.from b.count 0 + 20) (c : Option (List ℕ))
        (x : ColoursOf second start keys.keys.low keys.keys.high keys.keys.count shared.places a.graph b.graph c) where
      lines : (e : Doc) → Valid e → second ≡ render e → lines_of (drop start second) ≡ map edge_line e.edges
      lines e w u = rw o (edge-lines second b e accepts.1 w u keys.from starts-second)

      -- 23, by a ninth colour
      pub plan-ninth : c ≡ None → PlanOf first second (Err PoolBound)
      plan-ninth l =
          record {
            each = λ d e v w t u.
                beyond refl (agrees d e v w t u r h n) (no-ninth d e (rw l at (x.each d e (both d e v w t u) (lines e w u))));
          }

      -- and what is written
      pub plan-ready : (split size : ℕ) (digits : List ℕ) → c ≡ Some digits → split ≡ get_or own.from a.count 0 → size ≡ length first + bytes + (length second - start)
          → PlanOf first second (Ok (record {
            size = size;
            split = split;
            from = keys.from;
            shared = shared;
            start = start;
            digits = digits;
          }))
      unfolding pooled_text
      plan-ready split size digits l i j =
          record {
            each = λ d e v w t u.
                let y = rw l at (x.each d e (both d e v w t u) (lines e w u)) in
                let bound = rw m at (k.each d e v w t u (place d e v w t u)) in
                let sa = count_of first a d accepts.0 v t in
                let sb = count_of second b e accepts.1 w u in
                let small = small-first e w in
                let low : Each (λ (z : EdgeRow). z.colour ≤ 7) (map (recoloured d e) e.edges) = image-small d e e.edges (λ i z q. (y i z q).small) in
                let edges : with_digits (lines_of (drop start second)) digits 0 ≡ edge_lines (map (recoloured d e) e.edges) =
                rw (lines e w u) (edges-put d e digits e.edges 0 small (λ i z q. let o : 0 + i ≡ i = omega arith in rw o (y i z q))) in
                let rows : fresh_rows second keys.from shared.places shared.count ≡ item_lines (remaining d.items e.items) =
                fresh-rows second keys.from d.items e.items shared.places (place d e v w t u)
                (row_is second b e accepts.1 w u keys.from starts-second) shared.count (omega arith) ∙
                ap (λ (ys : List ItemRow). item_lines (remaining d.items ys)) (take_all shared.count e.items (omega arith)) in
                let place_of : split ≡ get_or own.from (length d.items) 0 = i ∙ ap (λ (q : ℕ). get_or own.from q 0) sa in
                let head : take split first ≡ front d (length d.items) = rw place_of (front-is first a d accepts.0 v t own.from starts_first (length d.items) (omega arith)) in
                let rest : drop split first ≡ tail d =
                rw place_of (behind-is first a d accepts.0 v t own.from starts_first (length d.items) (omega arith) ∙ ap (λ (ys : List ItemRow). item_lines ys ++ tail d) (drop-length d.items) ∙ no_lines d) in
                let text : take split first ++ fresh_rows second keys.from shared.places shared.count ++ drop split first ++ with_digits (lines_of (drop start second)) digits 0
                ≡ render (pooled d e) = rw (head, rows, rest, edges) (together-is d e) in
                ready _ refl (agrees d e v w t u r h n) (fits-of d e v bound.0 low)
                (record {
                  split = rw place_of (from-inside first a d accepts.0 v t own.from starts_first (length d.items) (omega arith));
                  rows = rw q (within second b e accepts.1 w u keys.from starts-second);
                  edges = rw (lines e w u) (edges-can e.items e.edges w.edges w.many);
                })
                text
                (j ∙ long d e small low bytes bound.1 head rest (rw o (edge-bytes second b e accepts.1 w u keys.from starts-second)));
          }
        where
          image-small : (d e : Doc) (es : List EdgeRow) → ((i : ℕ) (z : EdgeRow) → StandsAt es i z → (recoloured d e z).colour ≤ 7) → Each (λ (z : EdgeRow). z.colour ≤ 7) (map (recoloured d e) es)
          image-small d e [] h = tt
          image-small d e (z ∷ zs) h = (h 0 z refl, image-small d e zs (λ i y q. h (suc i) y q))

          long : (d e : Doc) → Each (λ (z : EdgeRow). z.colour ≤ 7) e.edges → Each (λ (z : EdgeRow). z.colour ≤ 7) (map (recoloured d e) e.edges) → (bytes : ℕ)
              → bytes ≡ length (item_lines (remaining d.items e.items)) → take split first ≡ front d (length d.items) → drop split first ≡ tail d
              → drop start second ≡ edge_lines e.edges → length first + bytes + (length second - start) ≡ length (render (pooled d e))
          long d e small low bytes q head rest edges =
              let a1 = ap length (together-is d e) in
              let a2 = length-append (front d (length d.items) ++ item_lines (remaining d.items e.items) ++ tail d) (edge_lines (map (recoloured d e) e.edges)) in
              let a3 = length-append (front d (length d.items) ++ item_lines (remaining d.items e.items)) (tail d) in
              let a4 = length-append (front d (length d.items)) (item_lines (remaining d.items e.items)) in
              let b1 = ap length head in
              let b2 = ap length rest in
              let b3 = length-take split first in
              let b4 = length-drop split first in
              let c1 = ap length edges in
              let c2 = length-drop start second in
              let c3 = same-long d e e.edges small low in
              omega arith
