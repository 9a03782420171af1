-- Writing a line, field by field.
-- Assumes nothing.
use mathlib.Core.Path.{◌≡◌, refl, sym}
use mathlib.Core.List.{List, [], ◌∷◌, ◌++◌, append-nil, append_assoc}
use Prim.Native.Nat.{ℕ, suc, ◌<◌}
use native.Mathlib.Omega.{arith}
use lib.ListN.{length, get_or, drop}
use lib.Seq.{drop-cons, drop-length}
use Rattle.sheet_format.specs.Rows.{line_text}
use Rattle.writing.specs.declared.Pen.{Pen}
use Rattle.writing.specs.Inner.{ended, RoomFor, Penned}
use Rattle.writing.proofs.Pens.{RowPenned, PenWriting, pen_none, pen_part, pen_end, row_of_penned}

-- The pen p is to write the line, and came to q: i fields stand, each with the byte behind it.
abbrev pub LineWriting : List (List ℕ) → Pen → ℕ → Pen → Type 0
LineWriting fields p i q = PenWriting p (line_text fields) (line_text (drop i fields)) q

line_first : (f g : List ℕ) (fs : List (List ℕ)) → line_text (f ∷ g ∷ fs) ≡ ended f 32 ++ line_text (g ∷ fs)
line_first f g fs = sym (append_assoc f (32 ∷ []) (line_text (g ∷ fs)))

module _ (fields : List (List ℕ)) (p : Pen) (i : ℕ) (q : Pen) (w : LineWriting fields p i q) where
  -- a field, and a space
  field_apart : suc i < length fields → line_text (drop i fields) ≡ ended (get_or fields i []) 32 ++ line_text (drop (suc i) fields)
  field_apart h =
      rw (drop-cons fields i [] (omega arith), drop-cons fields (suc i) [] h) (line_first (get_or fields i []) (get_or fields (suc i) []) (drop (suc (suc i)) fields))

  pub field-more : suc i < length fields → (r : Pen) → Penned q (ended (get_or fields i []) 32) r → LineWriting fields p (suc i) r
  field-more h r v = pen_part p (line_text fields) (ended (get_or fields i []) 32) (line_text (drop (suc i) fields)) q r (rw (field_apart h) at w) v

  -- the last field, and LF
  last-field : suc i ≡ length fields → line_text (drop i fields) ≡ ended (get_or fields i []) 10 ++ []
  last-field e =
      rw (drop-cons fields i [] (omega arith), drop-none)
      (sym (append-nil (ended (get_or fields i []) 10)))
    where
      drop-none : drop (suc i) fields ≡ []
      drop-none = rw e (drop-length fields)

  pub last-wrote : suc i ≡ length fields → (r : Pen) → Penned q (ended (get_or fields i []) 10) r → Penned p (line_text fields) r
  last-wrote e r v =
      pen_end p (line_text fields) [] r refl
      (pen_part p (line_text fields) (ended (get_or fields i []) 10) [] q r (rw (last-field e) at w) v)

  pub last_end : suc i ≡ length fields → RoomFor p (line_text fields) → (r : Pen) → Penned q (ended (get_or fields i []) 10) r → RowPenned p (line_text fields) r
  last_end e room r v = row_of_penned p (line_text fields) r (last-wrote e r v) room

pub line-none : (fields : List (List ℕ)) (p : Pen) → LineWriting fields p 0 p
line-none fields p = pen_none p (line_text fields)
