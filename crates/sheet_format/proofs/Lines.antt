-- Lines of a text and fields of a line: what is put together is taken apart again, and the other way round.
-- Assumes nothing.
use mathlib.Core.Path.{◌≡◌, refl, sym, ap, ap₂, ◌∙◌, subst}
use mathlib.Core.List.{List, [], ◌∷◌, ◌++◌, append_assoc}
use mathlib.Core.Bool.{true, false, ◌&&◌}
use mathlib.Core.Logic.{⊎_elim}
use Prim.Native.Nat.{ℕ, ◌<◌}
use native.Mathlib.Omega.{arith}
use lib.ListN.{length}
use lib.Dec.{eqb}
use borrow.Author.Tests.{eqb-true}
use Rattle.vertex_set.proofs.Cases.{by_test, false-true}
use Rattle.sheet_format.specs.Text.{grow, lines_of, fields_of, is_empty, all}
use Rattle.sheet_format.specs.Rows.{Each, line_text}
use Rattle.sheet_format.specs.Questions.{is_text_byte, ends_in_lf, question2}
use Rattle.vertex_set.proofs.Decisions.{and_parts, and_both, or_parts, or_right}
use Rattle.sheet_format.proofs.Tests.{empty-decided, all_append}

-- The byte x stands nowhere in the text.
abbrev pub Without : ℕ → List ℕ → Type 0
Without x s = Each (λ b. eqb b x ≡ false) s

-- ---- lines

-- Lines as a text: each ended by LF.
abbrev pub joined : List (List ℕ) → List ℕ
joined [] = []
joined (l ∷ ls) = l ++ (10 ∷ joined ls)

line-apart : (l s : List ℕ) → Without 10 l → lines_of (l ++ (10 ∷ s)) ≡ l ∷ lines_of s
unfolding lines_of grow
line-apart [] s w = refl
line-apart (b ∷ l) s w = rw (w.0, line-apart l s w.1)

pub lines-joined : (ls : List (List ℕ)) → Each (Without 10) ls → lines_of (joined ls) ≡ ls
unfolding lines_of
lines-joined [] w = refl
lines-joined (l ∷ ls) w = line-apart l (joined ls) w.0 ∙ ap (λ (r : List (List ℕ)). l ∷ r) (lines-joined ls w.1)

-- A byte in front of the first line.
joined-grow : (b : ℕ) (s : List ℕ) (ls : List (List ℕ)) → ends_in_lf s ≡ true → s ≡ joined ls → b ∷ s ≡ joined (grow b ls)
unfolding grow ends_in_lf
joined-grow b s [] e j = absurd (false-true (ap ends_in_lf (sym j) ∙ e))
joined-grow b s (l ∷ ls) e j = ap (λ (t : List ℕ). b ∷ t) j

joined-more : (b : ℕ) (s : List ℕ) → (eqb b 10 ≡ false → ends_in_lf s ≡ true) → s ≡ joined (lines_of s) → b ∷ s ≡ joined (lines_of (b ∷ s))
unfolding lines_of
joined-more b s n j =
    by_test (eqb b 10)
    (λ e. rw e (ap₂ ◌∷◌ (eqb-true b 10 e) j))
    (λ e. rw e (joined-grow b s (lines_of s) (n e) j))

-- A text that ends in LF is its lines, put together again.
pub joined-lines : (s : List ℕ) → ends_in_lf s ≡ true → s ≡ joined (lines_of s)
unfolding lines_of ends_in_lf
joined-lines [] e = absurd (false-true e)
joined-lines (b ∷ s) e =
    ⊎_elim
    (λ h. let p = and_parts (is_empty s) (eqb b 10) h in
    joined-more b s (λ n. absurd (false-true (sym n ∙ p.1))) (subst (λ (t : List ℕ). t ≡ joined (lines_of t)) (sym ((empty-decided s).yes p.0)) refl))
    (λ h. joined-more b s (λ n. h) (joined-lines s h))
    (or_parts (is_empty s && eqb b 10) (ends_in_lf s) e)

ends-append : (s t : List ℕ) → ends_in_lf t ≡ true → ends_in_lf (s ++ t) ≡ true
unfolding ends_in_lf
ends-append [] t e = e
ends-append (b ∷ s) t e = or_right (is_empty (s ++ t) && eqb b 10) (ends_in_lf (s ++ t)) (ends-append s t e)

behind-lf : (ls : List (List ℕ)) → ends_in_lf (10 ∷ joined ls) ≡ true
unfolding ends_in_lf is_empty
behind-lf [] = refl
behind-lf (l ∷ ls) = ends-append (10 ∷ l) (10 ∷ joined ls) (behind-lf ls)

-- Lines put together, of which there is one, end in LF.
joined-ends : (ls : List (List ℕ)) → 0 < length ls → ends_in_lf (joined ls) ≡ true
joined-ends [] h = absurd (omega arith)
joined-ends (l ∷ ls) h = ends-append l (10 ∷ joined ls) (behind-lf ls)

joined_bytes : (ls : List (List ℕ)) → Each (λ l. all is_text_byte l ≡ true) ls → all is_text_byte (joined ls) ≡ true
unfolding all is_text_byte
joined_bytes [] h = refl
joined_bytes (l ∷ ls) h = all_append is_text_byte l (10 ∷ joined ls) h.0 (joined_bytes ls h.1)

-- Lines of bytes 32 to 126, of which there is one, are the lines of a text.
pub joined-text : (ls : List (List ℕ)) → 0 < length ls → Each (λ l. all is_text_byte l ≡ true) ls → question2 (joined ls) ≡ true
unfolding question2
joined-text ls n h = and_both (all is_text_byte (joined ls)) (ends_in_lf (joined ls)) (joined_bytes ls h) (joined-ends ls n)

pub joined-append : (ls ms : List (List ℕ)) → joined (ls ++ ms) ≡ joined ls ++ joined ms
joined-append [] ms = refl
joined-append (l ∷ ls) ms = ap (λ (s : List ℕ). l ++ (10 ∷ s)) (joined-append ls ms) ∙ sym (append_assoc l (10 ∷ joined ls) (joined ms))

-- ---- fields

-- Fields as a line: parted by spaces.
abbrev pub spaced : List (List ℕ) → List ℕ
spaced [] = []
spaced (f ∷ []) = f
spaced (f ∷ g ∷ fs) = f ++ (32 ∷ spaced (g ∷ fs))

pub line-text : (fs : List (List ℕ)) → line_text fs ≡ spaced fs ++ (10 ∷ [])
line-text [] = refl
line-text (f ∷ []) = refl
line-text (f ∷ g ∷ fs) = ap (λ (s : List ℕ). f ++ (32 ∷ s)) (line-text (g ∷ fs)) ∙ sym (append_assoc f (32 ∷ spaced (g ∷ fs)) (10 ∷ []))

field_apart : (f l : List ℕ) → Without 32 f → fields_of (f ++ (32 ∷ l)) ≡ f ∷ fields_of l
unfolding fields_of grow
field_apart [] l w = refl
field_apart (b ∷ f) l w = rw (w.0, field_apart f l w.1)

field-alone : (f : List ℕ) → Without 32 f → fields_of f ≡ f ∷ []
unfolding fields_of grow
field-alone [] w = refl
field-alone (b ∷ f) w = rw (w.0, field-alone f w.1)

pub fields-spaced : (f : List ℕ) (fs : List (List ℕ)) → Each (Without 32) (f ∷ fs) → fields_of (spaced (f ∷ fs)) ≡ f ∷ fs
fields-spaced f [] w = field-alone f w.0
fields-spaced f (g ∷ fs) w =
    field_apart f (spaced (g ∷ fs)) w.0 ∙ ap (λ (r : List (List ℕ)). f ∷ r) (fields-spaced g fs w.1)

spaced-grow : (b : ℕ) (l : List ℕ) (fs : List (List ℕ)) → spaced fs ≡ l → spaced (grow b fs) ≡ b ∷ l
unfolding grow
spaced-grow b l [] e = ap (λ (t : List ℕ). b ∷ t) e
spaced-grow b l (f ∷ []) e = ap (λ (t : List ℕ). b ∷ t) e
spaced-grow b l (f ∷ g ∷ fs) e = ap (λ (t : List ℕ). b ∷ t) e

spaced-empty : (l : List ℕ) → spaced ([] ∷ fields_of l) ≡ 32 ∷ spaced (fields_of l)
unfolding fields_of grow
spaced-empty [] = refl
spaced-empty (b ∷ l) = by_test (eqb b 32) (λ e. rw e) (λ e. rw e (grown b (fields_of l)))
  where
    grown : (b : ℕ) (fs : List (List ℕ)) → spaced ([] ∷ grow b fs) ≡ 32 ∷ spaced (grow b fs)
    grown b [] = refl
    grown b (f ∷ fs) = refl

pub spaced-fields : (l : List ℕ) → spaced (fields_of l) ≡ l
unfolding fields_of
spaced-fields [] = refl
spaced-fields (b ∷ l) =
    by_test (eqb b 32)
    (λ e. rw e (spaced-empty l ∙ ap₂ ◌∷◌ (sym (eqb-true b 32 e)) (spaced-fields l)))
    (λ e. rw e (spaced-grow b l (fields_of l) (spaced-fields l)))
