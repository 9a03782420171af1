-- Agreement of vertices, and the items that remain, counted one by one.
-- Assumes nothing.
use mathlib.Core.Path.{◌≡◌, refl, sym, ap, ◌∙◌}
use mathlib.Core.List.{List, [], ◌∷◌, ◌++◌, append-nil, append_assoc}
use mathlib.Core.Bool.{Bool, true, false, cond}
use Rattle.std.specs.Option.{is_some}
use mathlib.Core.Logic.{⊎_elim}
use Prim.Native.Nat.{ℕ, suc, ◌+◌, ◌-◌, ◌≤◌, ◌<◌}
use native.Mathlib.Nat.{not-suc-le-zero}
use native.Mathlib.Numerals.{add-one}
use native.Mathlib.Omega.{arith}
use lib.ListN.{length, get_or, take, length-append}
use lib.Seq.{take_all}
use borrow.Author.Tests.{lt-ltb}
use Rattle.sheet_rows.proofs.Tables.{known-test}
use Rattle.vertex_set.specs.Set.{Decides}
use Rattle.vertex_set.proofs.Cases.{by_test, same_or}
use Rattle.vertex_set.proofs.Decisions.{decide-yes, decide-no}
use Rattle.std.specs.Prelude.{Option, None, Some}
use Rattle.setup.specs.declared.Vertex.{Vertex}
use Rattle.setup.specs.Setup.{unused_vertex, given, total}
use Rattle.setup.proofs.Counts.{total-append}
use Rattle.sheet_format.specs.Rows.{ItemRow, number_in, vertex_of, start_count, loss_count, line_text, item_fields, item_lines}
use Rattle.sheet_format.specs.Questions.{is_known}
use Rattle.sheet_format.specs.Stated.{StandsAt}
use Rattle.sheet_format.proofs.Stated.{at_place, take_more}
use Rattle.pool_format.specs.Rows.{remaining}
use Rattle.pool_format.specs.Inner.{shared_place, PlacesAmong}
use Rattle.pool_format.proofs.Recolouring.{remaining-known, remaining-new}
use Rattle.pool_items.specs.declared.Remaining.{Remaining}
use Rattle.pool_items.specs.Inner.Items.{AllAgree, WithItem, PlacesRise, ItemRowsAt, ItemCounts, CountsRemaining}

-- ---- agreement, item by item

module _ (first second : List Vertex) (places : List (Option ℕ)) where
  pub agree-none : AllAgree first second 0 places
  agree-none = record { each = λ j i l. absurd (not-suc-le-zero l) }

  pub agree-more : (j : ℕ) → AllAgree first second j places → ((i : ℕ) → get_or places j None ≡ Some i → get_or first i unused_vertex ≡ get_or second j unused_vertex)
      → AllAgree first second (j + 1) places
  agree-more j h e = record { each = λ k i l. ⊎_elim (λ q. rw q (e i)) (λ d. h.each k i (omega (arith, d))) (same_or k j) }

  pub agree-not : (nb j i : ℕ) → j < nb → get_or places j None ≡ Some i → (get_or first i unused_vertex ≡ get_or second j unused_vertex → ⊥)
      → Decides (AllAgree first second nb places) false
  agree-not nb j i l p n = decide-no (λ h. n (h.each j i l p))

  pub agree-all : (nb j : ℕ) → j ≡ nb → AllAgree first second j places → Decides (AllAgree first second nb places) true
  agree-all nb j e h = decide-yes (rw e at h)

-- ---- one row more

pub remaining-append : (xs ys zs : List ItemRow) → remaining xs (ys ++ zs) ≡ remaining xs ys ++ remaining xs zs
unfolding remaining
remaining-append xs [] zs = refl
remaining-append xs (y ∷ ys) zs =
    by_test (is_known xs y.name)
    (λ t. rw t (remaining-append xs ys zs))
    (λ t. rw t (ap (λ (l : List ItemRow). y ∷ l) (remaining-append xs ys zs)))

module _ (xs ys : List ItemRow) (j : ℕ) (y : ItemRow) (h : StandsAt ys j y) where
  pub remains-not : is_known xs y.name ≡ true → remaining xs (take (suc j) ys) ≡ remaining xs (take j ys)
  unfolding remaining
  remains-not t =
      ap (remaining xs) (take_more ys j y h) ∙ remaining-append xs (take j ys) (y ∷ []) ∙
      ap (λ (l : List ItemRow). remaining xs (take j ys) ++ l) (remaining-known xs y [] t) ∙ append-nil (remaining xs (take j ys))

  pub remains : is_known xs y.name ≡ false → remaining xs (take (suc j) ys) ≡ remaining xs (take j ys) ++ (y ∷ [])
  unfolding remaining
  remains t =
      ap (remaining xs) (take_more ys j y h) ∙ remaining-append xs (take j ys) (y ∷ []) ∙
      ap (λ (l : List ItemRow). remaining xs (take j ys) ++ l) (remaining-new xs y [] t)

-- what the test of a place tells
pub no-place : (o : Option ℕ) → is_some o ≡ false → o ≡ None
no-place None e = refl
no-place (Some i) e = absurd (cc)

pub some-place : (o : Option ℕ) → is_some o ≡ true → (i : ℕ) × (o ≡ Some i)
some-place None e = absurd (cc)
some-place (Some i) e = (i, refl)

place-some : (b : Bool) (n i : ℕ) → cond b (Some n) None ≡ Some i → (b ≡ true) × (i ≡ n)
place-some true n i e = (refl, cc)
place-some false n i e = absurd (cc)

place-none : (b : Bool) (n : ℕ) → cond b (Some n) None ≡ None → b ≡ false
place-none true n e = absurd (cc)
place-none false n e = refl

-- what the place of a name says of it
pub placed-name : (xs : List ItemRow) (n : List ℕ) (i : ℕ) → shared_place xs n ≡ Some i → (is_known xs n ≡ true) × (i ≡ number_in xs n)
unfolding shared_place
placed-name xs n i e = place-some (is_known xs n) (number_in xs n) i e

pub unplaced-name : (xs : List ItemRow) (n : List ℕ) → shared_place xs n ≡ None → is_known xs n ≡ false
unfolding shared_place
unplaced-name xs n e = place-none (is_known xs n) (number_in xs n) e

pub placed-at : (xs : List ItemRow) (n : List ℕ) (i : ℕ) → number_in xs n ≡ i → i < length xs → shared_place xs n ≡ Some i
unfolding shared_place
placed-at xs n i e h =
    let k : is_known xs n ≡ true = known-test xs n ∙ lt-ltb (number_in xs n) (length xs) (omega arith) in
    rw k (ap Some e)

-- an item has a place where its name is known
pub known-place : (xs ys : List ItemRow) (places : List (Option ℕ)) (j i : ℕ) (y : ItemRow) → PlacesAmong xs ys places → StandsAt ys j y → get_or places j None ≡ Some i
    → (is_known xs y.name ≡ true) × (i ≡ number_in xs y.name)
known-place xs ys places j i y p h e = placed-name xs y.name i (sym (p.each j y h) ∙ e)

pub unknown-place : (xs ys : List ItemRow) (places : List (Option ℕ)) (j : ℕ) (y : ItemRow) → PlacesAmong xs ys places → StandsAt ys j y → get_or places j None ≡ None
    → is_known xs y.name ≡ false
unknown-place xs ys places j y p h e = unplaced-name xs y.name (sym (p.each j y h) ∙ e)

pub lines-append : (xs ys : List ItemRow) → item_lines (xs ++ ys) ≡ item_lines xs ++ item_lines ys
unfolding item_lines
lines-append [] ys = refl
lines-append (x ∷ xs) ys =
    ap (λ (s : List ℕ). line_text (item_fields x) ++ s) (lines-append xs ys) ∙ sym (append_assoc (line_text (item_fields x)) (item_lines xs) (item_lines ys))

-- ---- counting

-- The items before j that remain are counted.
pub record CountsSoFar (vertices : List Vertex) (nb : ℕ) (places : List (Option ℕ)) (from : List ℕ) (r : Remaining) (j : ℕ) : Type 0 where
  pub items : r.items ≤ j
  pub starts : r.starts ≤ j
  pub losses : r.losses ≤ j
  pub bytes : r.bytes ≤ get_or from j 0
  pub each : (xs ys : List ItemRow) → PlacesAmong xs ys places → nb ≡ length ys → ItemRowsAt ys vertices from → ItemCounts (remaining xs (take j ys)) r

pub counts-none : (vertices : List Vertex) (nb : ℕ) (places : List (Option ℕ)) (from : List ℕ)
    → CountsSoFar vertices nb places from (record { items = 0; starts = 0; losses = 0; bytes = 0 }) 0
unfolding remaining start_count loss_count item_lines
counts-none vertices nb places from =
    record {
      items = omega arith;
      starts = omega arith;
      losses = omega arith;
      bytes = omega arith;
      each = λ xs ys p b w. record { items = refl; starts = refl; losses = refl; bytes = refl };
    }

given-most : (x : Option ℕ) → given x ≤ 1
given-most None = omega arith
given-most (Some n) = omega arith

-- one item counted behind others
counts-one : (zs : List ItemRow) (y : ItemRow) (r q : Remaining) (x : Vertex) (size : ℕ) → ItemCounts zs r → x ≡ vertex_of y → size ≡ length (line_text (item_fields y))
    → WithItem r x size q → ItemCounts (zs ++ (y ∷ [])) q
unfolding start_count loss_count item_lines
counts-one zs y r q x size c e s w =
    let l = length-append zs (y ∷ []) in
    let a = total-append (λ z. given z.start) zs (y ∷ []) in
    let b = total-append (λ z. given z.loss) zs (y ∷ []) in
    let t = ap length (lines-append zs (y ∷ [])) in
    let m = length-append (item_lines zs) (item_lines (y ∷ [])) in
    let k = length-append (line_text (item_fields y)) [] in
    let f : given x.start ≡ given y.start = ap (λ (z : Vertex). given z.start) e in
    let g : given x.loss ≡ given y.loss = ap (λ (z : Vertex). given z.loss) e in
    let c1 = c.items in
    let c2 : r.starts ≡ total (λ z. given z.start) zs = c.starts in
    let c3 : r.losses ≡ total (λ z. given z.loss) zs = c.losses in
    let c4 = c.bytes in
    let w1 = w.items in
    let w2 = w.starts in
    let w3 = w.losses in
    let w4 = w.bytes in
    record { items = omega arith; starts = omega arith; losses = omega arith; bytes = omega arith }

module _ (vertices : List Vertex) (nb : ℕ) (places : List (Option ℕ)) (from : List ℕ) (r : Remaining) (j : ℕ) (h : j < nb)
    (u : PlacesRise from nb) (n : CountsSoFar vertices nb places from r j) where
  pub counts_same : (i : ℕ) → get_or places j None ≡ Some i → CountsSoFar vertices nb places from r (j + 1)
  counts_same i l =
      rw (add-one j)
      (record {
        items = let a = n.items in omega arith;
        starts = let a = n.starts in omega arith;
        losses = let a = n.losses in omega arith;
        bytes = let a = n.bytes in let b = u.rise j h in omega arith;
        each = λ xs ys p b w.
            let y = at_place ys j (omega arith) in
            rw (remains-not xs ys j y.0 y.1 (known-place xs ys places j i y.0 p y.1 l).0) (n.each xs ys p b w);
      })

  pub counts-more : (q : Remaining) → get_or places j None ≡ None → WithItem r (get_or vertices j unused_vertex) (get_or from (j + 1) 0 - get_or from j 0) q
      → CountsSoFar vertices nb places from q (j + 1)
  counts-more q l w =
      let s = given-most (get_or vertices j unused_vertex).start in
      let t = given-most (get_or vertices j unused_vertex).loss in
      let w0 = rw (add-one j) at w in
      let w1 = w0.items in
      let w2 = w0.starts in
      let w3 = w0.losses in
      let w4 = w0.bytes in
      rw (add-one j)
      (record {
        items = let a = n.items in omega arith;
        starts = let a = n.starts in omega arith;
        losses = let a = n.losses in omega arith;
        bytes = let a = n.bytes in let b = u.rise j h in omega arith;
        each = λ xs ys p b v.
            let y = at_place ys j (omega arith) in
            let z = v.bytes j y.0 y.1 in
            rw (remains xs ys j y.0 y.1 (unknown-place xs ys places j y.0 p y.1 l))
            (counts-one (remaining xs (take j ys)) y.0 r q (get_or vertices j unused_vertex) (get_or from (suc j) 0 - get_or from j 0) (n.each xs ys p b v)
            (v.vertex j y.0 y.1) (omega arith) w0);
      })

pub counts_all : (vertices : List Vertex) (nb : ℕ) (places : List (Option ℕ)) (from : List ℕ) (r : Remaining) (j : ℕ) → j ≡ nb
    → CountsSoFar vertices nb places from r j → CountsRemaining vertices nb places from r
counts_all vertices nb places from r j e n =
    record {
      each = λ xs ys p b w.
          let t : take j ys ≡ ys = take_all j ys (omega arith) in
          rw (← t) (n.each xs ys p b w);
    }
