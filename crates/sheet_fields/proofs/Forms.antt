-- Kinds and values, by the tests that the code makes.
-- Assumes nothing.
use mathlib.Core.Path.{◌≡◌, refl, sym, ◌∙◌}
use mathlib.Core.List.{List, [], ◌∷◌}
use mathlib.Core.Bool.{Bool, true, false, ◌&&◌, and-true, and-false}
use Prim.Native.Nat.{ℕ, ◌≤◌, ◌<◌}
use native.Mathlib.Omega.{arith}
use lib.ListN.{length, get_or}
use lib.Dec.{eqb, leb}
use borrow.Author.Tests.{ne_eqb, eqb-true, le-leb, leb-true}
use Rattle.vertex_set.proofs.Cases.{by_test, false-true}
use Rattle.vertex_set.proofs.Decisions.{yes_of, no_of}
use Rattle.setup.specs.Bounds.{largest}
use Rattle.setup.specs.declared.Kind.TheVariants.{Credential, Account}
use Rattle.std.specs.Prelude.{Option, None, Some}
use Rattle.std.specs.Option.{option_map}
use Rattle.sheet_format.specs.Text.{same_text, all}
use Rattle.sheet_format.specs.Fields.{is_digit, is_number, number_of, is_number_to, is_kind, kind_of, is_value, field_value}
use Rattle.sheet_format.proofs.Tests.{text-decided}
use Rattle.sheet_fields.specs.Inner.Forms.{read_if}

-- ---- texts of one byte

same-one : (f : List ℕ) (x : ℕ) → length f ≡ 1 → same_text f (x ∷ []) ≡ eqb (get_or f 0 0) x
unfolding same_text
same-one [] x h = absurd (omega arith)
same-one (a ∷ []) x h = and-true (eqb a x)
same-one (a ∷ b ∷ f) x h = absurd (omega arith)

not-one : (f : List ℕ) (x : ℕ) → (length f ≡ 1 → ⊥) → same_text f (x ∷ []) ≡ false
unfolding same_text
not-one [] x h = refl
not-one (a ∷ []) x h = absurd (h refl)
not-one (a ∷ b ∷ f) x h = by_test (eqb a x) (λ e. rw e) (λ e. rw e)

-- ---- kinds

pub kind_short : (f : List ℕ) → length f < 1 → None ≡ read_if (is_kind f) (kind_of f)
unfolding is_kind
kind_short f h = rw (not-one f 99 (λ e. omega arith), not-one f 97 (λ e. omega arith))

pub kind_long : (f : List ℕ) → 2 ≤ length f → None ≡ read_if (is_kind f) (kind_of f)
unfolding is_kind
kind_long f h = rw (not-one f 99 (λ e. omega arith), not-one f 97 (λ e. omega arith))

pub kind_credential : (f : List ℕ) → 1 ≤ length f → length f < 2 → get_or f 0 0 ≡ 99 → Some Credential ≡ read_if (is_kind f) (kind_of f)
unfolding is_kind kind_of
kind_credential f h k e = let l : length f ≡ 1 = omega arith in rw (same-one f 99 l, same-one f 97 l, e)

pub kind_account : (f : List ℕ) → 1 ≤ length f → length f < 2 → get_or f 0 0 ≡ 97 → Some Account ≡ read_if (is_kind f) (kind_of f)
unfolding is_kind kind_of
kind_account f h k e = let l : length f ≡ 1 = omega arith in rw (same-one f 99 l, same-one f 97 l, e)

pub kind_other : (f : List ℕ) → 1 ≤ length f → length f < 2 → (get_or f 0 0 ≡ 99 → ⊥) → (get_or f 0 0 ≡ 97 → ⊥) → None ≡ read_if (is_kind f) (kind_of f)
unfolding is_kind
kind_other f h k n m = let l : length f ≡ 1 = omega arith in rw (same-one f 99 l, same-one f 97 l, ne_eqb (get_or f 0 0) 99 n, ne_eqb (get_or f 0 0) 97 m)

-- ---- numbers

-- a smaller bound is tested on what the code has of the number
pub number-to : (most : ℕ) (f : List ℕ) → most ≤ largest → is_number_to most f ≡ (is_number_to largest f && leb (number_of f) most)
unfolding is_number_to
number-to most f h =
    by_test (is_number f)
    (λ e. by_test (leb (number_of f) most)
    (λ t. let l = leb-true (number_of f) most t in rw (e, t, le-leb (number_of f) largest (omega arith)))
    (λ t. rw (e, t, and-false (leb (number_of f) largest))))
    (λ e. rw e)

-- `-` is no number
not-dash : (f : List ℕ) → is_number_to largest f ≡ true → same_text f (45 ∷ []) ≡ false
unfolding is_number_to is_number same_text all is_digit
not-dash [] h = absurd (false-true h)
not-dash (b ∷ f) h = by_test (eqb b 45) (λ e. absurd (false-true (rw (eqb-true b 45 e) at h))) (λ e. rw e)

-- ---- values

-- by what `==` of slices decides
pub not-the-dash : {f : List ℕ} (r : Bool) (d : List ℕ) → d ≡ 45 ∷ [] → Rattle.std.specs.Prelude.Decides r (f ≡ d) → r ≡ false → f ≡ 45 ∷ [] → ⊥
not-the-dash r d e h n i = false-true (sym n ∙ h.1 (i ∙ sym e))

pub value-dash : (f : List ℕ) → f ≡ 45 ∷ [] → Some None ≡ read_if (is_value f) (field_value f)
unfolding is_value field_value
value-dash f e = rw (yes_of (same_text f (45 ∷ [])) (text-decided f (45 ∷ [])) e)

pub value-number : (f : List ℕ) → (f ≡ 45 ∷ [] → ⊥) → option_map Some (read_if (is_number_to largest f) (number_of f)) ≡ read_if (is_value f) (field_value f)
unfolding is_value field_value
value-number f n =
    let d = no_of (same_text f (45 ∷ [])) (text-decided f (45 ∷ [])) n in
    by_test (is_number_to largest f) (λ e. rw (d, e)) (λ e. rw (d, e))
