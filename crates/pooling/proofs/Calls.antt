-- From what the parts of pooling promise to what the call does.
-- Assumes nothing.
use mathlib.Core.Path.{◌≡◌, sym, ap, ◌∙◌, subst}
use mathlib.Core.Bool.{Bool, true, false}
use mathlib.Core.List.{List, [], ◌∷◌, ◌++◌}
use mathlib.Core.Logic.{inl, inr}
use Prim.Native.Nat.{ℕ, ◌+◌, ◌-◌, ◌≤◌, ◌<◌}
use native.Mathlib.Omega.{arith}
use lib.ListN.{length, get_or, take, drop, length-append}
use lib.Dec.{leb}
use Rattle.std.specs.Prelude.{Option, Some, None, Result, Ok, Err, replicate}
use Rattle.questions.specs.declared.Refusal.{Refusal}
use Rattle.questions.specs.declared.Refusal.TheVariants.{Disagree, PoolBound}
use Rattle.questions.specs.Refusals.{number}
use Rattle.std.specs.Borrow.{MutBor}
use Rattle.written.specs.Inner.{Wrote}
use Rattle.written.proofs.Writing.{wrote-front}
use Rattle.writing.specs.declared.Pen.{Pen}
use Rattle.writing.specs.Inner.{AtStart, RoomFor, Penned}
use Rattle.writing.proofs.Pens.{penned_then, room_then, start_room, start_wrote}
use Rattle.vertex_set.specs.Set.{Decides}
use Rattle.vertex_set.proofs.Cases.{by_test}
use Rattle.vertex_set.proofs.Decisions.{decide-no, decide-leb}
use Rattle.setup.specs.declared.Setup.{Setup}
use Rattle.setup.specs.Setup.{given, total}
use Rattle.questions.specs.Asks.{Asks}
use Rattle.sheet_format.specs.Read.{Reading}
use Rattle.sheet_format.specs.Text.{lines_of}
use Rattle.sheet_format.specs.Rows.{ItemRow, Doc, Valid, start_count, loss_count, line_text, first_header, second_header, item_fields, item_lines, edge_lines, render}
use Rattle.sheet_format.specs.Questions.{is_known}
use Rattle.sheet_format.specs.Read.{read_sheet}
use Rattle.sheet_fields.specs.Inner.Parts.{until}
use Rattle.sheet_fields.proofs.Lines.{line_at, lines-over}
use Rattle.sheet_fields.proofs.Slices.{rest_part}
use Rattle.pool_format.specs.Call.{Pooled}
use Rattle.pool_format.specs.Rows.{remaining, pooled}
use Rattle.pool_format.specs.Inner.{PlacesAmong}
use Rattle.pool_format.specs.Call.{asks22, asks23, asks24, with_buffer, pool_refusal, pools_text, PoolsRows, PoolCall}
use Rattle.sheet_lines.specs.declared.item_keys.Keys.{Keys}
use Rattle.sheet_lines.specs.Inner.Keys.{Accepts, SheetKeys}
use Rattle.sheet_lines.proofs.Accepted.{count_of, edges-many, rows-of-text}
use Rattle.pool_items.specs.declared.Remaining.{Remaining}
use Rattle.pool_items.specs.Inner.Keys.{KeyPlaces}
use Rattle.pool_items.specs.Inner.Items.{PlacesRise, CountsRemaining}
use Rattle.pool_text.specs.Inner.{fresh_rows, with_digits}
use Rattle.pooling.specs.declared.Plan.{Plan}
use Rattle.pooling.specs.Inner.{Starts, BothRead, CountsInBounds, BoundsHold, BoundsOf, pooled_text, CanWrite, PlanFor, PlanOf, disagrees, beyond, ready}
use Rattle.pooling.proofs.Sheets.{rising, start-inside}
use Rattle.pooling.proofs.Plans.{Sheets, Counted, counted, bounds-are}

-- ---- lines

pub lines_step : (s : List ℕ) (at e n m : ℕ) → at < length s → e ≡ at + until 10 (drop at s) → n + length (lines_of (drop at s)) ≡ m
    → n + 1 + length (lines_of (drop (e + 1) s)) ≡ m
lines_step s at e n m h q p = let l = ap length (line_at s at e h q) in omega arith

pub lines_end : (s : List ℕ) (at n m : ℕ) → length s ≤ at → n + length (lines_of (drop at s)) ≡ m → n ≡ m
lines_end s at n m h p = let l = ap length (lines-over s at h) in omega arith

-- ---- bounds

pub bounds-last : (i s l e : ℕ) → i ≤ 64 → s ≤ 14 → l ≤ 14 → Decides (CountsInBounds i s l e) (leb e 256)
bounds-last i s l e a b c =
    let d = decide-leb e 256 in
    record { yes = λ t. record { most = a; starts = b; losses = c; many = d.yes t }; no = λ t h. d.no t h.many }

pub items-over : (i s l e : ℕ) → 64 < i → Decides (CountsInBounds i s l e) false
items-over i s l e h = decide-no (λ b. let m = b.most in omega arith)

pub starts-over : (i s l e : ℕ) → 14 < s → Decides (CountsInBounds i s l e) false
starts-over i s l e h = decide-no (λ b. let m = b.starts in omega arith)

pub losses-over : (i s l e : ℕ) → 14 < l → Decides (CountsInBounds i s l e) false
losses-over i s l e h = decide-no (λ b. let m = b.losses in omega arith)

-- ---- accepted sheets have rows

pub rows-rise : (s : List ℕ) (a : Setup) (from : List ℕ) → Accepts s a → Starts s a from → PlacesRise from a.count
rows-rise s a from h n = let d = rows-of-text s a h in rising s a d.doc h d.valid d.text from n

-- as many lines as there are other lines, item rows and edge rows
pub lines-enough : (s : List ℕ) (a : Setup) → Accepts s a → (3 ≤ length (lines_of s)) × (a.count ≤ length (lines_of s) - 3)
lines-enough s a h =
    let d = rows-of-text s a h in
    let e = edges-many s a d.doc h d.valid d.text in
    (omega arith, omega arith)

pub text-short : (s : List ℕ) (a : Setup) → Accepts s a → length s ≤ 16384
text-short s a h = let d = rows-of-text s a h in let e = ap length d.text in let t = d.valid.text in omega arith

pub start-there : (s : List ℕ) (a : Setup) (from : List ℕ) → Accepts s a → Starts s a from → get_or from a.count 0 + 20 ≤ length s
start-there s a from h n = let d = rows-of-text s a h in start-inside s a d.doc h d.valid d.text from n

-- ---- what remains is no more than all

remaining-total : (f : ItemRow → ℕ) (xs ys : List ItemRow) → total f (remaining xs ys) ≤ total f ys
unfolding remaining
remaining-total f xs [] = omega arith
remaining-total f xs (y ∷ ys) =
    let i = remaining-total f xs ys in
    by_test (is_known xs y.name) (λ t. rw t (omega arith)) (λ t. rw t (omega arith))

remaining-length : (xs ys : List ItemRow) → length (remaining xs ys) ≤ length ys
unfolding remaining
remaining-length xs [] = omega arith
remaining-length xs (y ∷ ys) =
    let i = remaining-length xs ys in
    by_test (is_known xs y.name) (λ t. rw t (omega arith)) (λ t. rw t (omega arith))

remaining-bytes : (xs ys : List ItemRow) → length (item_lines (remaining xs ys)) ≤ length (item_lines ys)
unfolding remaining item_lines
remaining-bytes xs [] = omega arith
remaining-bytes xs (y ∷ ys) =
    let i = remaining-bytes xs ys in
    let a = length-append (line_text (item_fields y)) (item_lines ys) in
    let b = length-append (line_text (item_fields y)) (item_lines (remaining xs ys)) in
    by_test (is_known xs y.name) (λ t. rw t (omega arith)) (λ t. rw t (omega arith))

-- ---- asking the bounds

module _ (first second : List ℕ) (a b : Setup) (begins from : List ℕ) (places : List (Option ℕ)) (p : BothRead first second a b begins from places) (own more : Remaining)
    (x : CountsRemaining a.vertices a.count (replicate 64 None) begins own) (y : CountsRemaining b.vertices b.count places from more) where
  both-counted : Counted p.one p.two own more
  both-counted =
      counted first second a b p.one p.two begins from places own more
      (record {
        accepts_first = p.accepts_first;
        accepts_second = p.accepts_second;
        valid_first = p.valid_one;
        valid_second = p.valid_two;
        is_first = p.is_first;
        is_second = p.is_second;
      }) p.starts_first p.starts_second p.placed x y

  -- the sums are small
  pub sums-small : (own.items + more.items ≤ 128) × (own.starts + more.starts ≤ 28) × (own.losses + more.losses ≤ 28)
  unfolding start_count loss_count
  sums-small =
      let f = both-counted.first in
      let s = both-counted.second in
      let f1 = f.items in
      let f2 : own.starts ≡ total (λ w. given w.start) p.one.items = f.starts in
      let f3 : own.losses ≡ total (λ w. given w.loss) p.one.items = f.losses in
      let s1 = s.items in
      let s2 : more.starts ≡ total (λ w. given w.start) (remaining p.one.items p.two.items) = s.starts in
      let s3 : more.losses ≡ total (λ w. given w.loss) (remaining p.one.items p.two.items) = s.losses in
      let r1 = remaining-length p.one.items p.two.items in
      let r2 = remaining-total (λ w. given w.start) p.one.items p.two.items in
      let r3 = remaining-total (λ w. given w.loss) p.one.items p.two.items in
      let m1 = p.valid_one.most in
      let m2 : total (λ w. given w.start) p.one.items ≤ 14 = p.valid_one.starts in
      let m3 : total (λ w. given w.loss) p.one.items ≤ 14 = p.valid_one.losses in
      let n1 = p.valid_two.most in
      let n2 : total (λ w. given w.start) p.two.items ≤ 14 = p.valid_two.starts in
      let n3 : total (λ w. given w.loss) p.two.items ≤ 14 = p.valid_two.losses in
      (omega arith, omega arith, omega arith)

  module _ (lines others : ℕ) (l : lines ≡ length (lines_of first)) (o : others ≡ length (lines_of second)) (ok : Bool)
      (h : Decides (CountsInBounds (own.items + more.items) (own.starts + more.starts) (own.losses + more.losses) (lines - 3 - a.count + (others - 3 - b.count))) ok) where
    asked-of : (d e : Doc) → Valid d → Valid e → first ≡ render d → second ≡ render e → PlacesAmong d.items e.items places → Counted d e own more × Decides (BoundsHold (pooled d e)) ok
    asked-of d e v w t u q =
        let m : Sheets first second a b d e =
        record { accepts_first = p.accepts_first; accepts_second = p.accepts_second; valid_first = v; valid_second = w; is_first = t; is_second = u } in
        let c = counted first second a b d e begins from places own more m p.starts_first p.starts_second q x y in
        let i = edges-many first a d p.accepts_first v t in
        let j = edges-many second b e p.accepts_second w u in
        (c, bounds-are d e own more (lines - 3 - a.count + (others - 3 - b.count)) c (omega arith) ok h)

    pub bounds-held : ok ≡ true → BoundsOf first second places (Some more.bytes)
    bounds-held e = record { each = λ d f v w t u q. let k = asked-of d f v w t u q in (k.1.yes e, k.0.second.bytes) }

    pub bounds-broken : ok ≡ false → BoundsOf first second places None
    bounds-broken e = record { each = λ d f v w t u q. (asked-of d f v w t u q).1.no e }

-- the edge rows are few
pub edges-small : (s : List ℕ) (a : Setup) (lines : ℕ) → Accepts s a → lines ≡ length (lines_of s) → lines - 3 - a.count ≤ 256
edges-small s a lines h q =
    let d = rows-of-text s a h in
    let e = edges-many s a d.doc h d.valid d.text in
    let m = d.valid.many in
    omega arith

-- ---- what is known before the bounds are asked

pub both_read : (first second : List ℕ) (a b : Setup) (own keys : Keys) (places : List (Option ℕ)) → Accepts first a × Accepts second b
    → SheetKeys first a.count own → SheetKeys second b.count keys → KeyPlaces own.keys keys.keys places
    → BothRead first second a b own.from keys.from places
both_read first second a b own keys places h f g p =
    let d = rows-of-text first a h.0 in
    let e = rows-of-text second b h.1 in
    let m = count_of first a d.doc h.0 d.valid d.text in
    let n = count_of second b e.doc h.1 e.valid e.text in
    record {
      accepts_first = h.0;
      accepts_second = h.1;
      starts_first = record { each = f.starts };
      starts_second = record { each = g.starts };
      one = d.doc;
      two = e.doc;
      valid_one = d.valid;
      valid_two = e.valid;
      is_first = d.text;
      is_second = e.text;
      placed = p.places d.doc.items e.doc.items (f.keys d.doc d.valid d.text m) (g.keys e.doc e.valid e.text n);
    }

-- the bytes of the remaining rows
pub bytes_small : (first second : List ℕ) (a b : Setup) (begins from : List ℕ) (places : List (Option ℕ)) (s : Option ℕ) (bytes : ℕ) → BothRead first second a b begins from places
    → BoundsOf first second places s → s ≡ Some bytes → bytes ≤ 16384
unfolding render
bytes_small first second a b begins from places s bytes p h z =
    let c = (rw z at (h.each p.one p.two p.valid_one p.valid_two p.is_first p.is_second p.placed)).1 in
    let r = remaining-bytes p.one.items p.two.items in
    let t : length (render p.two) ≤ 16384 = p.valid_two.text in
    let rest : List ℕ = 10 ∷ (second_header ++ (10 ∷ edge_lines p.two.edges)) in
    let l = length-append first_header (10 ∷ (item_lines p.two.items ++ rest)) in
    let m = length-append (item_lines p.two.items) rest in
    omega arith

-- ---- writing

-- a first part has room where the whole has
room-front : (xs ys : List ℕ) (at n : ℕ) → at + length (xs ++ ys) ≤ n → at + length xs ≤ n
room-front xs ys at n h = let l = length-append xs ys in omega arith

-- The four parts.
module _ (first second : List ℕ) (p : Plan) where
  abbrev pub one : List ℕ
  one = take p.split first

  abbrev pub two : List ℕ
  two = fresh_rows second p.from p.shared.places p.shared.count

  abbrev pub three : List ℕ
  three = drop p.split first

  abbrev pub four : List ℕ
  four = with_digits (lines_of (drop p.start second)) p.digits 0

  module _ (out : MutBor (List ℕ)) (c : CanWrite first second p out.now) where
    module _ (p0 : Pen) (starts : AtStart out p0) where
      room-four : RoomFor p0 (one ++ two ++ three ++ four)
      unfolding pooled_text
      room-four = start_room out p0 starts _ c.room

      room-three : RoomFor p0 (one ++ two ++ three)
      room-three = room-front (one ++ two ++ three) four p0.at (length p0.out.now) room-four

      room-two : RoomFor p0 (one ++ two)
      room-two = room-front (one ++ two) three p0.at (length p0.out.now) room-three

      pub room-one : RoomFor p0 one
      room-one = room-front one two p0.at (length p0.out.now) room-two

      module _ (p1 : Pen) (w1 : Penned p0 one p1) where
        pub room-second : RoomFor p1 two
        room-second = room_then p0 one p1 w1 two room-two

        module _ (p2 : Pen) (w2 : Penned p1 two p2) where
          penned-two : Penned p0 (one ++ two) p2
          penned-two = penned_then p0 one p1 w1 two p2 w2

          pub room-third : RoomFor p2 (take (length first - p.split) (drop p.split first))
          room-third = rw (rest_part first p.split) (room_then p0 (one ++ two) p2 penned-two three room-three)

          module _ (p3 : Pen) (w3 : Penned p2 (take (length first - p.split) (drop p.split first)) p3) where
            penned-three : Penned p0 (one ++ two ++ three) p3
            penned-three = penned_then p0 (one ++ two) p2 penned-two three p3 (rw (rest_part first p.split) at w3)

            pub room-fourth : RoomFor p3 four
            room-fourth = room_then p0 (one ++ two ++ three) p3 penned-three four room-four

            pub wrote-four : (p4 : Pen) → Penned p3 four p4 → Wrote out.now 0 (pooled_text first second p) p4.out.now p4.at
            unfolding pooled_text
            wrote-four p4 w4 = start_wrote out p0 starts _ p4 (penned_then p0 (one ++ two ++ three) p3 penned-three four p4 w4)

pub can_write : (first second : List ℕ) (a b : Setup) (p : Plan) (out : List ℕ) → Accepts first a × Accepts second b → (o : Result Plan Refusal) → PlanOf first second o → o ≡ Ok p
    → p.size ≤ length out → CanWrite first second p out
can_write first second a b p out h o f z room =
    let d = rows-of-text first a h.0 in
    let e = rows-of-text second b h.1 in
    by d.doc e.doc (f.each d.doc e.doc d.valid e.valid d.text e.text)
  where
    by : (d e : Doc) → PlanFor d e first second o → CanWrite first second p out
    by d e (disagrees n x) = absurd (let k : Err Disagree ≡ Ok p = sym n ∙ z in cc)
    by d e (beyond n x y) = absurd (let k : Err PoolBound ≡ Ok p = sym n ∙ z in cc)
    by d e (ready w n x y parts t s) =
        let k : Ok w ≡ Ok p = sym n ∙ z in
        let i : w ≡ p = cc in
        let l : length (pooled_text first second w) ≤ length out = rw t (omega (arith, ap (λ (v : Plan). v.size) i)) in
        subst (λ (v : Plan). CanWrite first second v out) i (record { parts = parts; room = l })

-- ---- the answers

module _ (first second : List ℕ) (a b : Setup) (h : Accepts first a × Accepts second b) (o : Result Plan Refusal) (f : PlanOf first second o) (r : Pooled) (entry : List ℕ) where
  abbrev d : Doc
  d = (rows-of-text first a h.0).doc

  abbrev e : Doc
  e = (rows-of-text second b h.1).doc

  abbrev Asked : List ℕ → Type 0
  Asked exit =
      Asks (pool_refusal 0 0 entry) (asks22 d e ∷ asks23 d e ∷ asks24 d e entry ∷ []) (λ o. o ≡ pools_text (render (pooled d e)) entry) (with_buffer r exit)

  -- the rows of both texts, and what is answered of them
  of-rows : (exit : List ℕ) → (PlanFor d e first second o → Asked exit) → PoolsRows first second entry (with_buffer r exit)
  of-rows exit by =
      let x = rows-of-text first a h.0 in
      let y = rows-of-text second b h.1 in
      record {
        d = d;
        e = e;
        valid = x.valid;
        valid_second = y.valid;
        is = x.text;
        is_second = y.text;
        told = by (f.each d e x.valid y.valid x.text y.text);
      }

  -- 22 or 23
  pub read-refused : (x : Refusal) → o ≡ Err x → r ≡ record { number = number x; sheet = 0; line = 0; size = 0 } → PoolsRows first second entry (with_buffer r entry)
  unfolding Asks
  read-refused x n q = of-rows entry by
    where
      refusal : (k : Refusal) → o ≡ Err k → with_buffer r entry ≡ pool_refusal 0 0 entry (number k)
      refusal k i =
          let j : Err x ≡ Err k = sym n ∙ i in
          let w : x ≡ k = cc in
          ap (λ (y : Pooled). with_buffer y entry) q ∙ ap (λ (y : Refusal). pool_refusal 0 0 entry (number y)) w

      by : PlanFor d e first second o → Asked entry
      by (disagrees m y) = inl (y, refusal Disagree m)
      by (beyond m y z) = inr (y, inl (z, refusal PoolBound m))
      by (ready p m y z parts t s) = absurd (let k : Err x ≡ Ok p = sym n ∙ m in cc)

  -- 24
  pub read_short : (p : Plan) → o ≡ Ok p → length entry < p.size → r ≡ record { number = 24; sheet = 0; line = 0; size = 0 } → PoolsRows first second entry (with_buffer r entry)
  unfolding Asks
  read_short p n l q = of-rows entry by
    where
      by : PlanFor d e first second o → Asked entry
      by (disagrees m x) = absurd (let k : Err Disagree ≡ Ok p = sym m ∙ n in cc)
      by (beyond m x y) = absurd (let k : Err PoolBound ≡ Ok p = sym m ∙ n in cc)
      by (ready w m x y parts t s) =
          let k : Ok w ≡ Ok p = sym m ∙ n in
          let i : w ≡ p = cc in
          let z = ap (λ (v : Plan). v.size) i in
          inr (x, inr (y, inl (λ k. omega arith, ap (λ (v : Pooled). with_buffer v entry) q)))

  -- the pooled sheet
  pub read-written : (p : Plan) → o ≡ Ok p → p.size ≤ length entry → r ≡ record { number = 0; sheet = 0; line = 0; size = p.size } → (exit : List ℕ) (n : ℕ)
      → Wrote entry 0 (pooled_text first second p) exit n → PoolsRows first second entry (with_buffer r exit)
  unfolding Asks
  read-written p ok l q exit n w = of-rows exit by
    where
      by : PlanFor d e first second o → Asked exit
      by (disagrees m x) = absurd (let k : Err Disagree ≡ Ok p = sym m ∙ ok in cc)
      by (beyond m x y) = absurd (let k : Err PoolBound ≡ Ok p = sym m ∙ ok in cc)
      by (ready u m x y parts t' s') =
          let k : Ok u ≡ Ok p = sym m ∙ ok in
          let i : u ≡ p = cc in
          let t : pooled_text first second p ≡ render (pooled d e) = ap (λ (v : Plan). pooled_text first second v) (sym i) ∙ t' in
          let s : p.size ≡ length (render (pooled d e)) = ap (λ (v : Plan). v.size) (sym i) ∙ s' in
          let v = rw t at w in
          let room : length (render (pooled d e)) ≤ length entry = omega arith in
          inr (
            x,
            inr (
              y,
              inr (
                room,
                ap (λ (u : Pooled). with_buffer u exit) q ∙ ap (λ (i : ℕ). with_buffer (record { number = 0; sheet = 0; line = 0; size = i }) exit) s
                    ∙ ap (with_buffer (record { number = 0; sheet = 0; line = 0; size = length (render (pooled d e)) })) (wrote-front entry (render (pooled d e)) exit n (omega arith) v),
              ),
            ),
          )

module _ (first second : List ℕ) (r : Pooled) (entry exit : List ℕ) where
  pub call-refused : (x : Reading) → x ≡ read_sheet first → (x.number ≡ 0 → ⊥) → exit ≡ entry → r ≡ record { number = x.number; sheet = 1; line = x.line; size = 0 } → PoolCall first second r entry exit
  unfolding Asks
  call-refused x q n u a =
      inl (λ z. n (ap (λ (y : Reading). y.number) q ∙ z), ap (with_buffer r) u ∙ ap (λ (v : Pooled). with_buffer v entry) a ∙ ap (λ (y : Reading). pool_refusal 1 y.line entry y.number) q)

  pub call-refused-second : (x y : Reading) → x ≡ read_sheet first → x.number ≡ 0 → y ≡ read_sheet second → (y.number ≡ 0 → ⊥) → exit ≡ entry
      → r ≡ record { number = y.number; sheet = 2; line = y.line; size = 0 } → PoolCall first second r entry exit
  unfolding Asks
  call-refused-second x y q z p n u a =
      inr (
        sym (ap (λ (w : Reading). w.number) q) ∙ z,
        inl (
          λ k. n (ap (λ (w : Reading). w.number) p ∙ k),
          ap (with_buffer r) u ∙ ap (λ (v : Pooled). with_buffer v entry) a ∙ ap (λ (w : Reading). pool_refusal 2 w.line entry w.number) p,
        ),
      )

  pub call-pools : (x y : Reading) → x ≡ read_sheet first → x.number ≡ 0 → y ≡ read_sheet second → y.number ≡ 0 → PoolsRows first second entry (with_buffer r exit) → PoolCall first second r entry exit
  unfolding Asks
  call-pools x y q z p w h = inr (sym (ap (λ (v : Reading). v.number) q) ∙ z, inr (sym (ap (λ (v : Reading). v.number) p) ∙ w, h))
