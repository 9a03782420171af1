-- The test of the whole text, and two texts compared, as loops make them.
-- Assumes nothing.
use mathlib.Core.Path.{◌≡◌, refl, sym, ◌∙◌}
use mathlib.Core.List.{List, [], ◌∷◌}
use mathlib.Core.Bool.{Bool, true, false, ◌&&◌, or-false, and-true, and-false}
use Prim.Native.Nat.{ℕ, suc, ◌-◌, ◌<◌}
use native.Mathlib.Omega.{arith}
use lib.ListN.{length, get_or}
use lib.Dec.{eqb}
use borrow.Author.Tests.{eq-eqb, ne_eqb}
use Rattle.sheet_format.specs.Text.{is_empty, same_text, all}
use Rattle.sheet_format.specs.Questions.{is_text_byte, ends_in_lf, question2}
use Rattle.std.specs.Prelude.{Decides}
use Rattle.std.specs.List.{list_all}
use Rattle.sheet_fields.proofs.Scans.{all-list}
use Rattle.vertex_set.proofs.Cases.{false-true}
use Rattle.vertex_set.proofs.Decisions.{no_of, yes_of}
use Rattle.sheet_format.proofs.Tests.{text-decided}

-- ---- question 2

pub text-none : (s : List ℕ) → length s ≡ 0 → false ≡ question2 s
unfolding question2 all ends_in_lf
text-none [] h = refl
text-none (b ∷ s) h = absurd (omega arith)

-- the last byte
ends : (b : ℕ) (s : List ℕ) → ends_in_lf (b ∷ s) ≡ eqb (get_or (b ∷ s) (length s) 0) 10
unfolding ends_in_lf is_empty
ends b [] = or-false (eqb b 10)
ends b (a ∷ s) = ends a s

text-last : (s : List ℕ) → 0 < length s → question2 s ≡ (all is_text_byte s && eqb (get_or s (length s - 1) 0) 10)
unfolding question2
text-last [] h = absurd (omega arith)
text-last (b ∷ s) h = let e : suc (length s) - 1 ≡ length s = omega arith in rw (e, ends b s)

pub text-all : (s : List ℕ) (last : ℕ) (r : Bool) → 0 < length s → last ≡ get_or s (length s - 1) 0 → last ≡ 10 → r ≡ list_all is_text_byte s → r ≡ question2 s
text-all s last r h e n q =
    q ∙ all-list is_text_byte s ∙ sym (text-last s h ∙ rw (sym e, eq-eqb last 10 n) (and-true (all is_text_byte s)))

pub text-open : (s : List ℕ) (last : ℕ) → 0 < length s → last ≡ get_or s (length s - 1) 0 → (last ≡ 10 → ⊥) → eqb last 10 ≡ question2 s
text-open s last h e n =
    ne_eqb last 10 n ∙ sym (text-last s h ∙ rw (sym e, ne_eqb last 10 n) (and-false (all is_text_byte s)))

-- ---- two texts

pub same-decided : (s t : List ℕ) (r : Bool) → Decides r (s ≡ t) → r ≡ same_text s t
same-decided s t true h = sym (yes_of (same_text s t) (text-decided s t) (h.0 refl))
same-decided s t false h = sym (no_of (same_text s t) (text-decided s t) (λ e. false-true (h.1 e)))
