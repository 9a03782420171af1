-- Writing a pair for each vertex of a set, from the lowest on.
-- Assumes nothing.
use mathlib.Core.Path.{◌≡◌, refl, ap}
use mathlib.Core.List.{List, [], ◌∷◌, ◌++◌}
use mathlib.Core.Logic.{inl, inr}
use Prim.Native.Nat.{ℕ, ◌-◌, ◌*◌, ◌^◌, ◌≤◌, ◌<◌}
use native.Mathlib.Omega.{arith}
use lib.Count.{ones-le, count_trailing_zeros}
use lib.ListN.{length, length-append}
use Rattle.vertex_set.specs.Set.{Member, Within}
use Rattle.vertex_set.specs.Order.{Listed}
use Rattle.vertex_set.proofs.Sets.{within-refl, within-trans}
use Rattle.vertex_set.proofs.Places.{places, places-none, lowest, removed-within, length-places, listed-places}
use Rattle.writing.specs.declared.Pen.{Pen}
use Rattle.writing.specs.Inner.{RoomFor}
use Rattle.writing.proofs.Pens.{RowPenned, PenWriting, pen_none, pen_part, pen_room, pen_end, row_of_penned, penned_of_row}
use Rattle.report_text.specs.Rows.{texts_of, pair_row}
use Rattle.report_text.proofs.Items.{items-places}
use Rattle.report_text.proofs.Lengths.{pair-row-short}
use Rattle.report_sections.specs.Inner.Parts.{pairs_with}

-- The pairs of v with the vertices of s.
abbrev rows_of : (ℕ → List ℕ) → ℕ → ℕ → List ℕ
rows_of name v s = texts_of (pair_row name v) (places 64 s)

pairs-rows : (name : ℕ → List ℕ) (v x : ℕ) → pairs_with name v x ≡ rows_of name v x
unfolding pairs_with
pairs-rows name v x = ap (texts_of (pair_row name v)) (items-places x)

-- ---- how long they are

texts-length : (text : ℕ → List ℕ) (most : ℕ) (l : List ℕ) → ((w : ℕ) → Listed l w → length (text w) ≤ most)
    → length (texts_of text l) ≤ length l * most
unfolding texts_of
texts-length text most [] h = omega arith
texts-length text most (w ∷ l) h =
    let a = h w (inl refl) in
    let b = texts-length text most l (λ u m. h u (inr m)) in
    omega (arith, length-append (text w) (texts_of text l))

pub pairs-length : (name : ℕ → List ℕ) (v x : ℕ) → x < 2 ^ 64 → length (name v) ≤ 16 → ((w : ℕ) → Member x w → length (name w) ≤ 16)
    → length (pairs_with name v x) ≤ 4096
pairs-length name v x b p q =
    let l = texts-length (pair_row name v) 34 (places 64 x) (λ w m. pair-row-short name v w p (q w ((listed-places 64 x w).to m).0)) in
    rw (pairs-rows name v x) (omega (arith, length-places 64 x b, ones-le 64 x b))

-- ---- the loop

rows-lowest : (name : ℕ → List ℕ) (v s : ℕ) → s < 2 ^ 64 → (s ≡ 0 → ⊥)
    → rows_of name v s ≡ pair_row name v (count_trailing_zeros 64 s) ++ rows_of name v (s - 2 ^ count_trailing_zeros 64 s)
unfolding texts_of
rows-lowest name v s h n = rw (lowest s h n).list

-- The pen p is to write the pairs of v with the vertices of x, and came to q: those with the vertices in rest are still to be written.
pub record PairsWriting (name : ℕ → List ℕ) (v x : ℕ) (p : Pen) (rest : ℕ) (q : Pen) : Type 0 where
  pub small : rest < 2 ^ 64
  pub within : Within rest x
  pub writing : PenWriting p (pairs_with name v x) (rows_of name v rest) q

pub pairs-none : (name : ℕ → List ℕ) (v x : ℕ) (p : Pen) → x < 2 ^ 64 → PairsWriting name v x p x p
pairs-none name v x p h = record { small = h; within = within-refl x; writing = rw (← pairs-rows name v x) (pen_none p (pairs_with name v x)) }

module _ (name : ℕ → List ℕ) (v x : ℕ) (p : Pen) (rest : ℕ) (q : Pen) (w : PairsWriting name v x p rest q) where
  -- what stays to be written, with the lowest vertex apart
  first-apart : (less : ℕ) → less ≡ rest - 2 ^ count_trailing_zeros 64 rest → (rest ≡ 0 → ⊥)
      → PenWriting p (pairs_with name v x) (pair_row name v (count_trailing_zeros 64 rest) ++ rows_of name v less) q
  first-apart less e n = rw (e, ← (rows-lowest name v rest w.small n)) w.writing

  pub pairs-room : (rest ≡ 0 → ⊥) → RoomFor p (pairs_with name v x) → RoomFor q (pair_row name v (count_trailing_zeros 64 rest))
  pairs-room n room =
      let less : ℕ = rest - 2 ^ count_trailing_zeros 64 rest in
      pen_room p (pairs_with name v x) (pair_row name v (count_trailing_zeros 64 rest)) (rows_of name v less) q (first-apart less refl n) room

  pub pairs-more : (less : ℕ) → less ≡ rest - 2 ^ count_trailing_zeros 64 rest → (rest ≡ 0 → ⊥) → (r : Pen)
      → RowPenned q (pair_row name v (count_trailing_zeros 64 rest)) r → PairsWriting name v x p less r
  pairs-more less e n r u =
      let row = pair_row name v (count_trailing_zeros 64 rest) in
      record {
        small = let h = w.small in omega arith;
        within = rw e (within-trans (removed-within rest (count_trailing_zeros 64 rest) (lowest rest w.small n).member) w.within);
        writing = pen_part p (pairs_with name v x) row (rows_of name v less) q r (first-apart less e n) (penned_of_row q row r u);
      }

  pub pairs_end : rest ≡ 0 → RoomFor p (pairs_with name v x) → RowPenned p (pairs_with name v x) q
  unfolding texts_of
  pairs_end z room =
      row_of_penned p (pairs_with name v x) q (pen_end p (pairs_with name v x) (rows_of name v rest) q (ap (texts_of (pair_row name v)) (places-none 64 rest z)) w.writing) room
