-- The fields of a row: what is written reads back, and what is read writes back.
-- Assumes nothing.
use mathlib.Core.Path.{◌≡◌, refl, sym, ap, ◌∙◌, subst}
use mathlib.Core.List.{List, [], ◌∷◌}
use mathlib.Core.Bool.{Bool, true, false, ◌&&◌, ◌||◌}
use mathlib.Core.Logic.{⊎_elim}
use Prim.Native.Nat.{ℕ, ◌^◌, ◌≤◌, ◌<◌}
use native.Mathlib.Omega.{arith}
use lib.ListN.{length}
use lib.Dec.{eqb, leb}
use borrow.Author.Tests.{leb-true, le-leb, eqb-true, ne_eqb}
use Rattle.vertex_set.proofs.Cases.{by_test, false-true}
use Rattle.setup.specs.Bounds.{largest}
use Rattle.setup.specs.declared.Kind.{Kind}
use Rattle.setup.specs.declared.Kind.TheVariants.{Credential, Account}
use Rattle.std.specs.Prelude.{Option, None, Some}
use Rattle.formed.specs.WellFormed.{InRange}
use Rattle.sheet_format.specs.Text.{same_text, is_empty, all}
use Rattle.sheet_format.specs.Fields.{is_digit, is_name_byte, is_name, is_number, number_of, is_number_to, decimal, kind_text, is_kind, kind_of, dash, is_value, field_value, value_text}
use Rattle.sheet_format.specs.Rows.{Each}
use Rattle.sheet_format.specs.Questions.{is_text_byte}
use Rattle.sheet_format.proofs.Lists.{each_map}
use Rattle.vertex_set.proofs.Decisions.{and_parts, and_both, or_parts, or_left, or_right, no_of}
use Rattle.sheet_format.proofs.Tests.{text-decided, same_refl, all-decided}
use Rattle.sheet_format.proofs.Numbers.{digit-range, decimal-digits, number-decimal, value-decimal, number-to, to_number}
use Rattle.sheet_format.proofs.Lines.{Without}

-- ---- bytes that may stand in a field

-- A byte above the space and up to 126: neither a space nor LF.
abbrev pub Visible : ℕ → Type 0
Visible b = (33 ≤ b) × (b ≤ 126)

-- A field that can be written: it is not empty, and has only such bytes.
pub record Plain (f : List ℕ) : Type 0 where
  pub some : is_empty f ≡ false
  pub bytes : Each Visible f

pub visible_without : (x : ℕ) (f : List ℕ) → x < 33 → Each Visible f → Without x f
visible_without x f l h = each_map Visible (λ b. eqb b x ≡ false) (λ b v. ne_eqb b x (λ e. let p = v.0 in omega arith)) f h

pub visible-text : (f : List ℕ) → Each Visible f → Each (λ b. is_text_byte b ≡ true) f
unfolding is_text_byte
visible-text f h =
    each_map Visible (λ b. is_text_byte b ≡ true)
    (λ b v. let p = v.0 in or_right (eqb b 10) (leb 32 b && leb b 126)
    (and_both (leb 32 b) (leb b 126) (le-leb 32 b (omega arith)) (le-leb b 126 v.1))) f h

-- ---- names

pub name-length : (f : List ℕ) → is_name f ≡ true → length f ≤ 16
unfolding is_name
name-length f h =
    leb-true (length f) 16 (and_parts (leb 1 (length f)) (leb (length f) 16)
    (and_parts (leb 1 (length f) && leb (length f) 16) (all is_name_byte f) h).0).1

digit-visible : (b : ℕ) → is_digit b ≡ true → Visible b
digit-visible b e = let r = digit-range b e in omega arith

name-visible : (b : ℕ) → is_name_byte b ≡ true → Visible b
unfolding is_name_byte
name-visible b e =
    ⊎_elim
    (λ h. ⊎_elim (λ l. let p = and_parts (leb 97 b) (leb b 122) l in omega (arith, leb-true 97 b p.0, leb-true b 122 p.1)) (λ d. digit-visible b d)
    (or_parts (leb 97 b && leb b 122) (is_digit b) h))
    (λ h. let q = eqb-true b 95 h in omega arith)
    (or_parts ((leb 97 b && leb b 122) || is_digit b) (eqb b 95) e)

some_of : (f : List ℕ) → 1 ≤ length f → is_empty f ≡ false
unfolding is_empty
some_of [] h = absurd (omega arith)
some_of (b ∷ f) h = refl

pub name-plain : (f : List ℕ) → is_name f ≡ true → Plain f
unfolding is_name
name-plain f e =
    let h = and_parts (leb 1 (length f) && leb (length f) 16) (all is_name_byte f) e in
    let l = and_parts (leb 1 (length f)) (leb (length f) 16) h.0 in
    record {
      some = some_of f (leb-true 1 (length f) l.0);
      bytes = each_map (λ b. is_name_byte b ≡ true) Visible name-visible f ((all-decided is_name_byte f).yes h.1);
    }

-- ---- numbers

number-some : (f : List ℕ) → is_number f ≡ true → is_empty f ≡ false
unfolding is_number is_empty
number-some [] e = absurd (false-true e)
number-some (b ∷ f) e = refl

pub decimal-plain : (n : ℕ) → n < 10 ^ 20 → Plain (decimal n)
decimal-plain n h =
    record {
      some = number-some (decimal n) (number-decimal n h);
      bytes = each_map (λ b. is_digit b ≡ true) Visible digit-visible (decimal n) ((all-decided is_digit (decimal n)).yes (decimal-digits n));
    }

-- ---- kinds

pub kind-yes : (k : Kind) → is_kind (kind_text k) ≡ true
unfolding is_kind same_text
kind-yes Credential = refl
kind-yes Account = refl

pub kind-written : (k : Kind) → kind_of (kind_text k) ≡ k
unfolding kind_of same_text
kind-written Credential = refl
kind-written Account = refl

pub kind-read : (f : List ℕ) → is_kind f ≡ true → kind_text (kind_of f) ≡ f
unfolding is_kind
kind-read f e =
    ⊎_elim (λ h. same Credential ((text-decided f (99 ∷ [])).yes h)) (λ h. same Account ((text-decided f (97 ∷ [])).yes h))
    (or_parts (same_text f (99 ∷ [])) (same_text f (97 ∷ [])) e)
  where
    same : (k : Kind) → f ≡ kind_text k → kind_text (kind_of f) ≡ f
    same k e = ap (λ (g : List ℕ). kind_text (kind_of g)) e ∙ ap kind_text (kind-written k) ∙ sym e

pub kind-plain : (k : Kind) → Plain (kind_text k)
unfolding is_empty
kind-plain Credential = record { some = refl; bytes = (omega arith, tt) }
kind-plain Account = record { some = refl; bytes = (omega arith, tt) }

-- ---- values

dash-no-number : is_number dash ≡ false
unfolding is_number all is_digit is_empty
dash-no-number = refl

decimal-no-dash : (n : ℕ) → n < 10 ^ 20 → same_text (decimal n) dash ≡ false
decimal-no-dash n h =
    no_of (same_text (decimal n) dash) (text-decided (decimal n) dash) (λ e. false-true (sym dash-no-number ∙ ap is_number (sym e) ∙ number-decimal n h))

pub value-yes : (x : Option ℕ) → InRange x → is_value (value_text x) ≡ true
unfolding is_value
value-yes None h = or_left (same_text dash dash) (is_number_to largest dash) (same_refl dash)
value-yes (Some n) h = or_right (same_text (decimal n) dash) (is_number_to largest (decimal n)) (number-to largest n (omega arith) h)

pub value_written : (x : Option ℕ) → InRange x → field_value (value_text x) ≡ x
unfolding field_value
value_written None h = rw (same_refl dash)
value_written (Some n) h = rw (decimal-no-dash n (omega arith), value-decimal n (omega arith))

pub record ValueRead (f : List ℕ) : Type 0 where
  pub range : InRange (field_value f)
  pub text : value_text (field_value f) ≡ f

value_as : (f : List ℕ) (x : Option ℕ) → field_value f ≡ x → InRange x → value_text x ≡ f → ValueRead f
value_as f x e r t = record { range = subst InRange (sym e) r; text = ap value_text e ∙ t }

pub value_read : (f : List ℕ) → is_value f ≡ true → ValueRead f
unfolding is_value field_value
value_read f e =
    by_test (same_text f dash)
    (λ d. value_as f None (rw d) tt (sym ((text-decided f dash).yes d)))
    (λ d. let n = to_number largest f (omega arith) (subst (λ (t : Bool). t || is_number_to largest f ≡ true) d e) in
    value_as f (Some (number_of f)) (rw d) n.bound n.text)

pub value-plain : (x : Option ℕ) → InRange x → Plain (value_text x)
unfolding is_empty
value-plain None h = record { some = refl; bytes = (omega arith, tt) }
value-plain (Some n) h = decimal-plain n (omega arith)
