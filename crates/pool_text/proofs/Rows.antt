-- Writing the second sheet's rows, one by one.
-- Assumes nothing.
use mathlib.Core.Path.{◌≡◌, refl}
use mathlib.Core.List.{List, [], ◌∷◌, ◌++◌}
use mathlib.Core.Bool.{Bool, true, false, not, cond}
use Prim.Native.Nat.{ℕ, zero, suc, ◌+◌, ◌-◌, ◌≤◌, ◌<◌}
use native.Mathlib.Numerals.{add-one}
use native.Mathlib.Omega.{arith}
use lib.ListN.{length, get_or, take, drop, length-append}
use Rattle.std.specs.Prelude.{Option, Some, None}
use Rattle.std.specs.Option.{is_some}
use Rattle.writing.specs.declared.Pen.{Pen}
use Rattle.writing.specs.Inner.{RoomFor, Penned}
use Rattle.writing.proofs.Pens.{penned_none, penned_then, room_then, PenWriting, pen_none, pen_part, pen_room}
use Rattle.sheet_format.specs.Text.{lines_of}
use Rattle.sheet_fields.specs.Inner.Parts.{until}
use Rattle.sheet_fields.proofs.Lines.{line_at, lines-over}
use Rattle.sheet_fields.proofs.Slices.{rest_part}
use Rattle.pool_text.specs.Inner.{row_at, row_unless, fresh_rows, with_digit, with_digits, CanPut}

-- ---- a text that is asked for

pub room-asked : (asked : Bool) (p : Pen) (text : List ℕ) → asked ≡ true → RoomFor p (cond asked text []) → RoomFor p text
room-asked asked p text e h = rw e at h

pub penned-asked : (asked : Bool) (p : Pen) (text : List ℕ) (q : Pen) → asked ≡ true → Penned p text q → Penned p (cond asked text []) q
penned-asked asked p text q e w = rw e w

pub penned-not : (asked : Bool) (p : Pen) (text : List ℕ) → asked ≡ false → Penned p (cond asked text []) p
penned-not asked p text e = rw e (penned_none p)

-- ---- one edge row

pub digit-first : (l : List ℕ) (b : ℕ) (p : Pen) → RoomFor p (with_digit l b) → RoomFor p (take (length l - 3) l ++ (b ∷ []))
unfolding with_digit
digit-first l b p h = omega (arith, h, length-append (take (length l - 3) l ++ (b ∷ [])) (drop (length l - 3 + 1) l ++ (10 ∷ [])))

module _ (l : List ℕ) (b : ℕ) (p q : Pen) (w : Penned p (take (length l - 3) l ++ (b ∷ [])) q) where
  pub digit_room : RoomFor p (with_digit l b) → RoomFor q (take (length l - (length l - 3 + 1)) (drop (length l - 3 + 1) l) ++ (10 ∷ []))
  unfolding with_digit
  digit_room h = rw (rest_part l (length l - 3 + 1)) (room_then p (take (length l - 3) l ++ (b ∷ [])) q w (drop (length l - 3 + 1) l ++ (10 ∷ [])) h)

  pub digit-penned : (r : Pen) → Penned q (take (length l - (length l - 3 + 1)) (drop (length l - 3 + 1) l) ++ (10 ∷ [])) r → Penned p (with_digit l b) r
  unfolding with_digit
  digit-penned r v = penned_then p (take (length l - 3) l ++ (b ∷ [])) q w (drop (length l - 3 + 1) l ++ (10 ∷ [])) r (rw (rest_part l (length l - 3 + 1)) at v)

-- ---- remaining rows

-- a row is asked for where its item has no place
pub asked-row : (o : Option ℕ) (fresh : Bool) (row : List ℕ) → is_some o ≡ not fresh → cond fresh row [] ≡ row_unless o row
asked-row None true row e = refl
asked-row None false row e = absurd (cc)
asked-row (Some i) true row e = absurd (cc)
asked-row (Some i) false row e = refl

-- the same of what the pen writes, whatever says whether the row is asked for
module _ (o t : Option ℕ) (h : t ≡ o) (row : List ℕ) (p : Pen) (fresh : Bool) where
  pub row-room : is_some t ≡ not fresh → RoomFor p (row_unless o row) → RoomFor p (cond fresh row [])
  row-room e r = rw (asked-row o fresh row (rw h at e)) r

  pub row-penned : (q : Pen) → is_some t ≡ not fresh → Penned p (cond fresh row []) q → Penned p (row_unless o row) q
  row-penned q e w = rw (asked-row o fresh row (rw h at e)) at w

module _ (s from : List ℕ) (places : List (Option ℕ)) where
  pub fresh-none : (p : Pen) → Penned p (fresh_rows s from places 0) p
  unfolding fresh_rows
  fresh-none p = penned_none p

  pub fresh-more : (p q : Pen) (j : ℕ) (r : Pen) → Penned p (fresh_rows s from places j) q → Penned q (row_unless (get_or places j None) (row_at s from j)) r
      → Penned p (fresh_rows s from places (suc j)) r
  unfolding fresh_rows
  fresh-more p q j r w v = penned_then p (fresh_rows s from places j) q w (row_unless (get_or places j None) (row_at s from j)) r v

  -- the first rows are no longer than all
  fresh-grows : (j k : ℕ) → length (fresh_rows s from places j) ≤ length (fresh_rows s from places (k + j))
  unfolding fresh_rows
  fresh-grows j zero = let e : 0 + j ≡ j = omega arith in rw e (omega arith)
  fresh-grows j (suc k) =
      let e : suc k + j ≡ suc (k + j) = omega arith in
      let i = fresh-grows j k in
      rw e (let l = length-append (fresh_rows s from places (k + j)) (row_unless (get_or places (k + j) None) (row_at s from (k + j))) in omega arith)

  -- there is room for the next row where there is for all
  pub fresh-room : (p q : Pen) (j n : ℕ) → j < n → Penned p (fresh_rows s from places j) q → RoomFor p (fresh_rows s from places n)
      → RoomFor q (row_unless (get_or places j None) (row_at s from j))
  unfolding fresh_rows
  fresh-room p q j n h w room =
      let e : n - suc j + suc j ≡ n = omega arith in
      let g = rw e at (fresh-grows (suc j) (n - suc j)) in
      let l = length-append (fresh_rows s from places j) (row_unless (get_or places j None) (row_at s from j)) in
      room_then p (fresh_rows s from places j) q w (row_unless (get_or places j None) (row_at s from j)) (omega arith)

-- ---- edge rows

-- The pen p is to write all, and came to q: the lines from `from` on, with the digits from the place k on, are still to be written.
pub record EdgesLeft (s digits : List ℕ) (p : Pen) (all : List ℕ) (q : Pen) (from k : ℕ) : Type 0 where
  pub can : CanPut (lines_of (drop from s)) k
  pub left : PenWriting p all (with_digits (lines_of (drop from s)) digits k) q

pub edges-first : (s digits : List ℕ) (p : Pen) (start : ℕ) → CanPut (lines_of (drop start s)) 0
    → EdgesLeft s digits p (with_digits (lines_of (drop start s)) digits 0) p start 0
edges-first s digits p start c = record { can = c; left = pen_none p (with_digits (lines_of (drop start s)) digits 0) }

module _ (s digits : List ℕ) (p : Pen) (all : List ℕ) (q : Pen) (from k : ℕ) (n : EdgesLeft s digits p all q from k)
    (h : from < length s) (end : ℕ) (e : end ≡ from + until 10 (drop from s)) where
  abbrev first : List ℕ
  first = with_digit (take (end - from) (drop from s)) (get_or digits k 0)

  abbrev behind : List ℕ
  behind = with_digits (lines_of (drop (end + 1) s)) digits (suc k)

  lines : lines_of (drop from s) ≡ take (end - from) (drop from s) ∷ lines_of (drop (end + 1) s)
  lines = line_at s from end h e

  pub edge-can : (3 ≤ length (take (end - from) (drop from s))) × (k < 256)
  edge-can = let c = rw lines at n.can in let f = c.few in (c.long.0, omega arith)

  left_is : PenWriting p all (first ++ behind) q
  unfolding with_digits
  left_is = rw lines at n.left

  pub edge-room : RoomFor p all → RoomFor q first
  edge-room room = pen_room p all first behind q left_is room

  pub edges-next : (r : Pen) → Penned q first r → EdgesLeft s digits p all r (end + 1) (k + 1)
  edges-next r w =
      let c = rw lines at n.can in
      let f = c.few in
      rw (add-one k)
      (record {
        can = record { long = c.long.1; few = omega arith };
        left = pen_part p all first behind q r left_is w;
      })

pub edges-over : (s digits : List ℕ) (from k : ℕ) → length s ≤ from → with_digits (lines_of (drop from s)) digits k ≡ []
unfolding with_digits
edges-over s digits from k h = rw (lines-over s from h)
