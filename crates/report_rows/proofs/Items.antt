-- Writing the items of a set, from the lowest on.
-- Assumes nothing.
use mathlib.Core.Path.{◌≡◌, ap}
use mathlib.Core.Bool.{not}
use mathlib.Core.List.{List, [], ◌∷◌, ◌++◌, append-nil, append_assoc}
use mathlib.Core.Logic.{⊎_elim}
use Prim.Native.Nat.{ℕ, ◌-◌, ◌^◌, ◌<◌}
use native.Mathlib.Omega.{arith}
use lib.Count.{count_trailing_zeros}
use lib.Dec.{eqb}
use borrow.Author.Tests.{eq-eqb, ne_eqb}
use Rattle.vertex_set.specs.Set.{Within}
use Rattle.vertex_set.proofs.Cases.{same_or}
use Rattle.vertex_set.proofs.Sets.{within-refl, within-trans}
use Rattle.vertex_set.proofs.Places.{places, places-none, lowest, removed-within}
use Rattle.writing.specs.declared.Pen.{Pen}
use Rattle.writing.specs.Inner.{RoomFor, Penned}
use Rattle.writing.proofs.Pens.{PenWriting, pen_none, pen_part, pen_room, pen_end}
use Rattle.report_text.specs.Rows.{joined, set_text}
use Rattle.report_text.proofs.Items.{names_of, set-text}
use Rattle.report_rows.specs.Inner.Writing.{plus}

-- the first name, with a `+` where another follows
joined-first : (name : ℕ → List ℕ) (v s : ℕ) → s < 2 ^ 64
    → joined name (v ∷ places 64 s) ≡ (name v ++ plus (not (eqb s 0))) ++ names_of name s
unfolding joined
joined-first name v s h =
    ⊎_elim
    (λ z. rw (eq-eqb s 0 z, places-none 64 s z, append-nil (name v), append-nil (name v)))
    (λ n. rw (ne_eqb s 0 n, (lowest s h n).list, append_assoc (name v) (43 ∷ []) (joined name (count_trailing_zeros 64 s ∷ places 64 (s - 2 ^ count_trailing_zeros 64 s)))))
    (same_or s 0)

-- The name of the lowest vertex of s, and a `+` unless nothing is left.
abbrev lowest_text : (ℕ → List ℕ) → ℕ → ℕ → List ℕ
lowest_text name s less = name (count_trailing_zeros 64 s) ++ plus (not (eqb less 0))

names-lowest : (name : ℕ → List ℕ) (s : ℕ) → s < 2 ^ 64 → (s ≡ 0 → ⊥)
    → names_of name s ≡ lowest_text name s (s - 2 ^ count_trailing_zeros 64 s) ++ names_of name (s - 2 ^ count_trailing_zeros 64 s)
names-lowest name s h n = rw (lowest s h n).list (joined-first name (count_trailing_zeros 64 s) (s - 2 ^ count_trailing_zeros 64 s) (omega arith))

-- The pen p is to write the names of x, and came to q: those of the vertices in rest are still to be written.
pub record ItemsWriting (name : ℕ → List ℕ) (x : ℕ) (p : Pen) (rest : ℕ) (q : Pen) : Type 0 where
  pub small : rest < 2 ^ 64
  pub within : Within rest x
  pub writing : PenWriting p (set_text name x) (names_of name rest) q

pub items-none : (name : ℕ → List ℕ) (x : ℕ) (p : Pen) → x < 2 ^ 64 → ItemsWriting name x p x p
items-none name x p h = record { small = h; within = within-refl x; writing = rw (← set-text name x) (pen_none p (set_text name x)) }

module _ (name : ℕ → List ℕ) (x : ℕ) (p : Pen) (rest : ℕ) (q : Pen) (w : ItemsWriting name x p rest q) where
  -- what stays to be written, with the lowest vertex apart
  first-apart : (less : ℕ) → less ≡ rest - 2 ^ count_trailing_zeros 64 rest → (rest ≡ 0 → ⊥)
      → PenWriting p (set_text name x) (lowest_text name rest less ++ names_of name less) q
  first-apart less e n = rw (e, ← (names-lowest name rest w.small n)) w.writing

  pub items-room : (less : ℕ) → less ≡ rest - 2 ^ count_trailing_zeros 64 rest → (rest ≡ 0 → ⊥) → RoomFor p (set_text name x)
      → RoomFor q (lowest_text name rest less)
  items-room less e n room = pen_room p (set_text name x) (lowest_text name rest less) (names_of name less) q (first-apart less e n) room

  pub items_more : (less : ℕ) → less ≡ rest - 2 ^ count_trailing_zeros 64 rest → (rest ≡ 0 → ⊥) → (r : Pen) → Penned q (lowest_text name rest less) r
      → ItemsWriting name x p less r
  items_more less e n r v =
      record {
        small = let h = w.small in omega arith;
        within = rw e (within-trans (removed-within rest (count_trailing_zeros 64 rest) (lowest rest w.small n).member) w.within);
        writing = pen_part p (set_text name x) (lowest_text name rest less) (names_of name less) q r (first-apart less e n) v;
      }

  pub items-end : rest ≡ 0 → Penned p (set_text name x) q
  unfolding joined
  items-end z = pen_end p (set_text name x) (names_of name rest) q (ap (joined name) (places-none 64 rest z)) w.writing
