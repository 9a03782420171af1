-- A pen that writes part by part.
-- Assumes nothing.
use mathlib.Core.List.{List, [], ◌++◌}
use mathlib.Core.Path.{◌≡◌, refl, ◌∙◌}
use Prim.Native.Nat.{ℕ, ◌≤◌}
use native.Mathlib.Omega.{arith}
use lib.ListN.{length}
use Rattle.std.specs.Borrow.{MutBor}
use Rattle.written.specs.Inner.{Wrote}
use Rattle.written.specs.Rows.{RowWritten}
use Rattle.written.proofs.Writing.{Writing, wrote_none, wrote_then, room-then, writing-none, writing-part, writing-room, writing-end}
use Rattle.written.proofs.Rows.{row_written, row_wrote}
use Rattle.writing.specs.declared.Pen.{Pen}
use Rattle.writing.specs.Inner.{AtStart, SameBuffer, RoomFor, Penned}

-- ---- no write, and two, one after the other

pub penned_none : (p : Pen) → Penned p [] p
penned_none p = record { same = refl; long = refl; wrote = wrote_none _ _ }

module _ (p : Pen) (xs : List ℕ) (q : Pen) (w : Penned p xs q) where
  pub penned_then : (ys : List ℕ) (r : Pen) → Penned q ys r → Penned p (xs ++ ys) r
  penned_then ys r v = record { same = v.same ∙ w.same; long = v.long ∙ w.long; wrote = wrote_then _ _ _ _ _ w.wrote _ _ _ v.wrote }

  -- there is room for the second
  pub room_then : (ys : List ℕ) → RoomFor p (xs ++ ys) → RoomFor q ys
  room_then ys h = room-then _ _ _ _ _ w.wrote ys h

-- ---- what is still to be written

-- The pen p is to write the bytes `all`, and came to q: `rest` is still to be written.
pub record PenWriting (p : Pen) (all rest : List ℕ) (q : Pen) : Type 0 where
  pub same : SameBuffer p q
  pub writing : Writing p.out.now p.at all rest q.out.now q.at

pub pen_none : (p : Pen) (all : List ℕ) → PenWriting p all all p
pen_none p all = record { same = refl; writing = writing-none _ _ all }

pub pen_part : (p : Pen) (all xs ys : List ℕ) (q r : Pen) → PenWriting p all (xs ++ ys) q → Penned q xs r → PenWriting p all ys r
pen_part p all xs ys q r w v = record { same = v.same ∙ w.same; writing = writing-part _ _ all xs ys _ _ _ _ w.writing v.wrote }

pub pen_room : (p : Pen) (all xs ys : List ℕ) (q : Pen) → PenWriting p all (xs ++ ys) q → RoomFor p all → RoomFor q xs
pen_room p all xs ys q w h = writing-room _ _ all xs ys _ _ w.writing h

pub pen_end : (p : Pen) (all rest : List ℕ) (q : Pen) → rest ≡ [] → PenWriting p all rest q → Penned p all q
pen_end p all rest q e w = record { same = w.same; long = w.writing.long; wrote = writing-end _ _ all rest _ _ e w.writing }

-- ---- rows: where there is room, each promise follows from the other

-- What is promised of a row, of a pen.
pub record RowPenned (before : Pen) (row : List ℕ) (after : Pen) : Type 0 where
  pub same : SameBuffer before after
  pub row_written : RowWritten before.out.now before.at row after.out.now after.at

pub row_of_penned : (p : Pen) (row : List ℕ) (q : Pen) → Penned p row q → RoomFor p row → RowPenned p row q
row_of_penned p row q w h = record { same = w.same; row_written = row_written _ _ row _ _ w.wrote h }

pub penned_of_row : (p : Pen) (row : List ℕ) (q : Pen) → RowPenned p row q → Penned p row q
penned_of_row p row q w = record { same = w.same; long = w.row_written.others.2; wrote = row_wrote _ _ row _ _ w.row_written }

-- ---- from the start of a buffer

module _ (out : MutBor (List ℕ)) (p : Pen) (s : AtStart out p) where
  pub start_room : (xs : List ℕ) → length xs ≤ length out.now → RoomFor p xs
  start_room xs h = rw (s.bytes, s.start) (omega arith)

  pub start_wrote : (xs : List ℕ) (q : Pen) → Penned p xs q → Wrote out.now 0 xs q.out.now q.at
  start_wrote xs q w = rw (s.bytes, s.start) at w.wrote
