-- Reading a number byte by byte: the first digit too many ends it.
-- Assumes nothing.
use mathlib.Core.Path.{◌≡◌, refl}
use mathlib.Core.List.{List, [], ◌∷◌}
use mathlib.Core.Bool.{true, false, ◌&&◌, and-true, and-false}
use Prim.Native.Nat.{ℕ, ◌+◌, ◌-◌, ◌*◌, ◌≤◌, ◌<◌}
use native.Mathlib.Numerals.{add-one}
use native.Mathlib.Omega.{arith}
use lib.ListN.{length, get_or, drop, drop_of_length-le}
use lib.Seq.{drop-cons}
use lib.Dec.{leb}
use borrow.Author.Tests.{eq-eqb, ne_eqb, le-leb, lt-leb, leb-true, leb-false}
use Rattle.std.specs.Prelude.{Some, None}
use Rattle.vertex_set.proofs.Cases.{by_test}
use Rattle.vertex_set.proofs.Decisions.{and_parts}
use Rattle.setup.specs.Bounds.{largest}
use Rattle.sheet_format.specs.Text.{all, is_empty}
use Rattle.sheet_format.specs.Fields.{is_digit, is_number, value_behind, number_of, is_number_to}
use Rattle.sheet_fields.specs.Inner.Forms.{read_if, more_digits}

-- ---- a turn of the loop

pub digits-no : (n b : ℕ) (s : List ℕ) → None ≡ more_digits n (b ∷ []) → None ≡ more_digits n (b ∷ s)
unfolding more_digits
digits-no n b s e =
    by_test (is_digit b && leb (n * 10 + (b - 48)) largest) (λ t. absurd (let k : None ≡ Some (n * 10 + (b - 48)) = rw t at e in cc)) (λ t. rw t)

pub digits-more : (n b m : ℕ) (s : List ℕ) → Some m ≡ more_digits n (b ∷ []) → (m ≤ largest) × (more_digits n (b ∷ s) ≡ more_digits m s)
unfolding more_digits
digits-more n b m s e =
    by_test (is_digit b && leb (n * 10 + (b - 48)) largest)
    (λ t.
    let k : Some m ≡ Some (n * 10 + (b - 48)) = rw t at e in
    let q : m ≡ n * 10 + (b - 48) = cc in
    let l = leb-true (n * 10 + (b - 48)) largest (and_parts (is_digit b) (leb (n * 10 + (b - 48)) largest) t).1 in
    (omega arith, rw (t, q)))
    (λ t. absurd (let k : Some m ≡ None = rw t at e in cc))

pub digits-next : (n : ℕ) (s : List ℕ) (i : ℕ) → i < length s → more_digits n (drop i s) ≡ more_digits n (get_or s i 0 ∷ drop (i + 1) s)
digits-next n s i h = rw (drop-cons s i 0 h, add-one i)

pub digits_end : (n : ℕ) (s : List ℕ) (i : ℕ) → length s ≤ i → more_digits n (drop i s) ≡ Some n
unfolding more_digits
digits_end n s i h = rw (drop_of_length-le s h)

-- ---- what the loop comes to

value-grows : (n : ℕ) (s : List ℕ) → n ≤ value_behind n s
unfolding value_behind
value-grows n [] = omega arith
value-grows n (b ∷ s) = let h = value-grows (n * 10 + (b - 48)) s in omega arith

digits-are : (s : List ℕ) (n : ℕ) → n ≤ largest → more_digits n s ≡ read_if (all is_digit s && leb (value_behind n s) largest) (value_behind n s)
unfolding more_digits all value_behind
digits-are [] n h = rw (le-leb n largest h)
digits-are (b ∷ s) n h =
    by_test (is_digit b)
    (λ d. by_test (leb (n * 10 + (b - 48)) largest)
    (λ t. rw (d, t) (digits-are s (n * 10 + (b - 48)) (leb-true (n * 10 + (b - 48)) largest t)))
    (λ t.
    let l = leb-false (n * 10 + (b - 48)) largest t in
    let g = value-grows (n * 10 + (b - 48)) s in
    let u : leb (value_behind (n * 10 + (b - 48)) s) largest ≡ false = lt-leb (value_behind (n * 10 + (b - 48)) s) largest (omega arith) in
    rw (d, t, u, and-false (all is_digit s))))
    (λ d. rw d)

-- a number's first digit is 0 only where it stands alone
pub number-none : (s : List ℕ) → length s ≡ 0 → None ≡ read_if (is_number_to largest s) (number_of s)
unfolding is_number_to is_number
number-none [] h = refl
number-none (b ∷ s) h = absurd (omega arith)

pub leading-zero : (s : List ℕ) → get_or s 0 0 ≡ 48 → (length s ≡ 1 → ⊥) → None ≡ read_if (is_number_to largest s) (number_of s)
unfolding is_number_to is_number is_empty
leading-zero [] e h = refl
leading-zero (b ∷ []) e h = absurd (h refl)
leading-zero (b ∷ a ∷ s) e h = rw (eq-eqb b 48 e, and-false (all is_digit (b ∷ a ∷ s)))

number-first : (b : ℕ) (s : List ℕ) → (is_empty s ≡ true → ⊥) → (b ≡ 48 → ⊥) → more_digits 0 (b ∷ s) ≡ read_if (is_number_to largest (b ∷ s)) (number_of (b ∷ s))
unfolding is_number_to is_number number_of is_empty
number-first b [] n k = absurd (n refl)
number-first b (a ∷ s) n k = rw (ne_eqb b 48 k, and-true (all is_digit (b ∷ a ∷ s))) (digits-are (b ∷ a ∷ s) 0 (omega arith))

pub number-read : (s : List ℕ) → (length s ≡ 0 → ⊥) → (get_or s 0 0 ≡ 48 → length s ≡ 1) → more_digits 0 s ≡ read_if (is_number_to largest s) (number_of s)
unfolding is_number_to is_number number_of is_empty
number-read [] n k = absurd (n refl)
number-read (b ∷ []) n k = rw (and-true (all is_digit (b ∷ []))) (digits-are (b ∷ []) 0 (omega arith))
number-read (b ∷ a ∷ s) n k = number-first b (a ∷ s) (λ e. absurd (Rattle.vertex_set.proofs.Cases.false-true e)) (λ e. absurd (let l = k e in omega arith))
