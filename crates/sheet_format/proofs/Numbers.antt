-- Numbers as they are written and read: each undoes the other; and how many digits they have.
-- Assumes nothing.
use mathlib.Core.Path.{◌≡◌, refl, sym, ap, ap₂, ◌∙◌, subst}
use mathlib.Core.List.{List, [], ◌∷◌, ◌++◌, append-nil, append_assoc, nil≢cons, head-eq_of_cons-eq}
use mathlib.Core.Bool.{true, not, ◌&&◌, ◌||◌}
use mathlib.Core.Logic.{⊎_elim}
use Prim.Native.Nat.{ℕ, zero, suc, ◌+◌, ◌-◌, ◌*◌, ◌/◌, ◌%◌, ◌^◌, ◌≤◌, ◌<◌}
use native.Mathlib.Nat.{pow-suc, pow-succ', pow-le-pow_right, mul_assoc, mul-le-mul_right, add-zero, zero-add, add-suc, suc-add}
use native.Mathlib.Omega.{arith}
use lib.ListN.{length, length-append}
use lib.Dec.{eqb, leb}
use borrow.Author.Tests.{lt-ltb, le-ltb, leb-true, le-leb, eqb-false, ne_eqb, not-true}
use Rattle.vertex_set.proofs.Cases.{less-or, false-true}
use Rattle.sheet_format.specs.Text.{is_empty, all}
use Rattle.sheet_format.specs.Fields.{is_digit, is_number, value_behind, number_of, is_number_to, digits_in, decimal}
use Rattle.vertex_set.proofs.Decisions.{and_parts, and_both, or_parts, or_right}
use Rattle.sheet_format.proofs.Tests.{empty-decided, all_append}

-- ---- the digits of a number

-- One digit.
digits-one : (k n : ℕ) → n < 10 → digits_in (suc k) n ≡ (48 + n) ∷ []
unfolding digits_in
digits-one k n h = rw (lt-ltb n 10 h)

-- More than one.
pub digits_more : (k n : ℕ) → 10 ≤ n → digits_in (suc k) n ≡ digits_in k (n / 10) ++ ((48 + n % 10) ∷ [])
unfolding digits_in
digits_more k n h = rw (le-ltb n 10 h)

-- The two cases of a number in suc k places.
digits-cases : (P : List ℕ → Type 0) (k n : ℕ) → (n < 10 → P ((48 + n) ∷ [])) → (10 ≤ n → P (digits_in k (n / 10) ++ ((48 + n % 10) ∷ []))) → P (digits_in (suc k) n)
digits-cases P k n one more =
    ⊎_elim (λ h. subst P (sym (digits-one k n h)) (one h)) (λ h. subst P (sym (digits_more k n h)) (more h)) (less-or n 10)

tenth : (k n : ℕ) → n < 10 ^ suc k → n / 10 < 10 ^ k
tenth k n h = let p = pow-suc 10 k in omega arith

-- ---- what is written reads back

value-append : (n : ℕ) (s t : List ℕ) → value_behind n (s ++ t) ≡ value_behind (value_behind n s) t
unfolding value_behind
value-append n [] t = refl
value-append n (b ∷ s) t = value-append (n * 10 + (b - 48)) s t

value-digits : (k n : ℕ) → n < 10 ^ k → value_behind 0 (digits_in k n) ≡ n
unfolding value_behind digits_in
value-digits zero n h = omega arith
value-digits (suc k) n h =
    digits-cases (λ f. value_behind 0 f ≡ n) k n (λ l. omega arith)
    (λ l. value-append 0 (digits_in k (n / 10)) ((48 + n % 10) ∷ []) ∙
    (let e = value-digits k (n / 10) (tenth k n h) in omega arith))

digit-yes : (n : ℕ) → n < 10 → is_digit (48 + n) ≡ true
unfolding is_digit
digit-yes n h = and_both (leb 48 (48 + n)) (leb (48 + n) 57) (le-leb 48 (48 + n) (omega arith)) (le-leb (48 + n) 57 (omega arith))

digits-digits : (k n : ℕ) → all is_digit (digits_in k n) ≡ true
unfolding all digits_in
digits-digits zero n = refl
digits-digits (suc k) n =
    digits-cases (λ f. all is_digit f ≡ true) k n
    (λ l. and_both (is_digit (48 + n)) true (digit-yes n l) refl)
    (λ l. all_append is_digit (digits_in k (n / 10)) ((48 + n % 10) ∷ []) (digits-digits k (n / 10))
    (and_both (is_digit (48 + n % 10)) true (digit-yes (n % 10) (omega arith)) refl))

pub decimal-digits : (n : ℕ) → all is_digit (decimal n) ≡ true
unfolding decimal
decimal-digits n = digits-digits 20 n

-- A text that begins with another byte than `0`.
Leads : List ℕ → Type 0
Leads f = (b : ℕ) × (s : List ℕ) × (f ≡ b ∷ s) × (b ≡ 48 → ⊥)

digits-lead : (k n : ℕ) → 0 < n → n < 10 ^ k → Leads (digits_in k n)
unfolding Leads digits_in
digits-lead zero n p h = absurd (omega arith)
digits-lead (suc k) n p h =
    digits-cases Leads k n (λ l. (48 + n, [], refl, λ e. omega arith))
    (λ l. let t = digits-lead k (n / 10) (omega arith) (tenth k n h) in
    (t.0, t.1 ++ ((48 + n % 10) ∷ []), ap (λ (f : List ℕ). f ++ ((48 + n % 10) ∷ [])) t.2, t.3))

number-lead : (f : List ℕ) → all is_digit f ≡ true → Leads f → is_number f ≡ true
unfolding Leads is_number
number-lead [] d t = absurd (nil≢cons t.2)
number-lead (b ∷ s) d t =
    and_both (all is_digit (b ∷ s)) (is_empty s || not (eqb b 48)) d
    (or_right (is_empty s) (not (eqb b 48)) (ap not (ne_eqb b 48 (λ e. t.3 (sym (head-eq_of_cons-eq t.2) ∙ e)))))

pub number-decimal : (n : ℕ) → n < 10 ^ 20 → is_number (decimal n) ≡ true
unfolding decimal digits_in is_number all is_digit is_empty
number-decimal zero h = refl
number-decimal (suc n) h = number-lead (digits_in 20 (suc n)) (digits-digits 20 (suc n)) (digits-lead 20 (suc n) (omega arith) h)

pub value-decimal : (n : ℕ) → n < 10 ^ 20 → number_of (decimal n) ≡ n
unfolding decimal number_of
value-decimal n h = value-digits 20 n h

-- ---- how many digits

digits-length : (j k n : ℕ) → n < 10 ^ suc k → length (digits_in j n) ≤ suc k
unfolding digits_in
digits-length zero k n h = omega arith
digits-length (suc j) zero n h = rw (lt-ltb n 10 h) (omega arith)
digits-length (suc j) (suc k) n h =
    let p = pow-suc 10 (suc k) in
    ⊎_elim (λ l. rw (lt-ltb n 10 l) (omega arith))
    (λ l. rw (le-ltb n 10 l) (let i = digits-length j k (n / 10) (omega arith) in omega (arith, length-append (digits_in j (n / 10)) ((48 + n % 10) ∷ []))))
    (less-or n 10)

-- A number below 10^(k + 1) has at most k + 1 digits.
pub decimal-length : (k n : ℕ) → n < 10 ^ suc k → length (decimal n) ≤ suc k
unfolding decimal
decimal-length k n h = digits-length 20 k n h

-- ---- what is read writes back

pub digit-range : (b : ℕ) → is_digit b ≡ true → (48 ≤ b) × (b ≤ 57)
unfolding is_digit
digit-range b e = let h = and_parts (leb 48 b) (leb b 57) e in (leb-true 48 b h.0, leb-true b 57 h.1)

-- A text of digits, and the number read in front of it, which is not 0.
digits-back : (k n : ℕ) (s : List ℕ) → 0 < n → all is_digit s ≡ true → digits_in (k + length s) (value_behind n s) ≡ digits_in k n ++ s
unfolding all value_behind
digits-back k n [] p d = rw (add-zero k, append-nil (digits_in k n))
digits-back k n (b ∷ s) p d =
    let h = and_parts (is_digit b) (all is_digit s) d in
    let r = digit-range b h.0 in
    let high : (n * 10 + (b - 48)) / 10 ≡ n = omega arith in
    let low : 48 + (n * 10 + (b - 48)) % 10 ≡ b = omega arith in
    rw (add-suc k (length s), ← (suc-add k (length s)))
    (digits-back (suc k) (n * 10 + (b - 48)) s (omega arith) h.1 ∙
    ap (λ (f : List ℕ). f ++ s) (digits_more k (n * 10 + (b - 48)) (omega arith) ∙ ap₂ (λ (m c : ℕ). digits_in k m ++ (c ∷ [])) high low) ∙
    append_assoc (digits_in k n) (b ∷ []) s)

-- Each further digit makes ten times as much.
value_grows : (n : ℕ) (s : List ℕ) → n * 10 ^ length s ≤ value_behind n s
unfolding value_behind
value_grows n [] = omega arith
value_grows n (b ∷ s) =
    let e : n * 10 ^ suc (length s) ≡ (n * 10) * 10 ^ length s = rw (pow-succ' 10 (length s), mul_assoc n 10 (10 ^ length s)) in
    let m : (n * 10) * 10 ^ length s ≤ (n * 10 + (b - 48)) * 10 ^ length s = mul-le-mul_right (10 ^ length s) (omega arith) in
    let i = value_grows (n * 10 + (b - 48)) s in
    omega arith

-- A text of digits that begins with another one than 0 is no longer than its value has places.
few-digits : (n : ℕ) (s : List ℕ) (k : ℕ) → 0 < n → value_behind n s < 10 ^ k → length s < k
few-digits n s k p h =
    ⊎_elim (λ l. l)
    (λ l. absurd (
    let a : 10 ^ k ≤ 10 ^ length s = pow-le-pow_right {n = 10} (omega arith) {i = k} {j = length s} l in
    let b : 1 * 10 ^ length s ≤ n * 10 ^ length s = mul-le-mul_right (10 ^ length s) p in
    let c = value_grows n s in
    omega arith))
    (less-or (length s) k)

digit-back : (k b : ℕ) → is_digit b ≡ true → digits_in (suc k) (b - 48) ≡ b ∷ []
digit-back k b d =
    let r = digit-range b d in
    let e : 48 + (b - 48) ≡ b = omega arith in
    digits-one k (b - 48) (omega arith) ∙ ap (λ (c : ℕ). c ∷ []) e

-- All digits but the first, which is not 0, and the first.
lead-back : (b : ℕ) (s : List ℕ) → is_digit b ≡ true → all is_digit s ≡ true → (b ≡ 48 → ⊥) → value_behind (b - 48) s < 10 ^ 20 → digits_in 20 (value_behind (b - 48) s) ≡ b ∷ s
lead-back b s d ds n h =
    let r = digit-range b d in
    let p : 0 < b - 48 = omega (arith, n) in
    let l = few-digits (b - 48) s 20 p h in
    let places : 20 ≡ suc (19 - length s) + length s = omega arith in
    ap (λ (k : ℕ). digits_in k (value_behind (b - 48) s)) places ∙ digits-back (suc (19 - length s)) (b - 48) s p ds ∙
    ap (λ (f : List ℕ). f ++ s) (digit-back (19 - length s) b d)

alone : (b : ℕ) (s : List ℕ) → is_digit b ≡ true → s ≡ [] → digits_in 20 (value_behind (b - 48) s) ≡ b ∷ s
unfolding value_behind
alone b s d z = rw z (digit-back 19 b d)

first-value : (b : ℕ) (s : List ℕ) → number_of (b ∷ s) ≡ value_behind (b - 48) s
unfolding number_of value_behind
first-value b s = ap (λ (n : ℕ). value_behind n s) (zero-add (b - 48))

pub decimal-value : (f : List ℕ) → is_number f ≡ true → number_of f < 10 ^ 20 → decimal (number_of f) ≡ f
unfolding is_number decimal all
decimal-value [] e h = absurd (false-true e)
decimal-value (b ∷ s) e h =
    let parts = and_parts (is_digit b && all is_digit s) (is_empty s || not (eqb b 48)) e in
    let digits = and_parts (is_digit b) (all is_digit s) parts.0 in
    rw (first-value b s)
    (⊎_elim (λ z. alone b s digits.0 ((empty-decided s).yes z))
    (λ z. lead-back b s digits.0 digits.1 (eqb-false b 48 (not-true (eqb b 48) z)) (rw (first-value b s) at h))
    (or_parts (is_empty s) (not (eqb b 48)) parts.1))

-- ---- numbers within a bound

-- A number up to `most` is accepted as such.
pub number-to : (most n : ℕ) → most < 10 ^ 20 → n ≤ most → is_number_to most (decimal n) ≡ true
unfolding is_number_to
number-to most n b h =
    and_both (is_number (decimal n)) (leb (number_of (decimal n)) most) (number-decimal n (omega arith))
    (rw (value-decimal n (omega arith)) (le-leb n most h))

pub record NumberTo (most : ℕ) (f : List ℕ) : Type 0 where
  pub bound : number_of f ≤ most
  pub text : decimal (number_of f) ≡ f

pub to_number : (most : ℕ) (f : List ℕ) → most < 10 ^ 20 → is_number_to most f ≡ true → NumberTo most f
unfolding is_number_to
to_number most f b e =
    let h = and_parts (is_number f) (leb (number_of f) most) e in
    let l = leb-true (number_of f) most h.1 in
    record { bound = l; text = decimal-value f h.0 (omega arith) }
