-- The binary digits of a number, and of what the machine's word operations make of two numbers.
-- Assumes nothing.
use mathlib.Core.Path.{◌≡◌, refl, sym, ap, ◌∙◌, subst}
use mathlib.Core.Logic.{◌⊎◌, inl, inr, ⊎_elim}
use Prim.Native.Nat.{ℕ, zero, suc, ◌+◌, ◌-◌, ◌*◌, ◌/◌, ◌%◌, ◌^◌, min, max, ◌<◌}
use native.Mathlib.Nat.{pow-suc, zero-div, div-one, div-eq_of_lt, div-div-eq-div-mul, mod-lt, mul_comm}
use native.Mathlib.Omega.{arith}
use lib.Bits.{bit_and, bit_or, and_shr, or_shr, and_step, or_step}
use lib.Arith.{bin_ind, lt_of_le-ne}
use Rattle.vertex_set.proofs.Cases.{less-or}
use lib.Pow.{pow_pos, pow-lt, pow-add, shl-shr}

-- The digit of s at place i.
abbrev pub digit : ℕ → ℕ → ℕ
digit s i = s / 2 ^ i % 2

pub digit_lt : (s i : ℕ) → digit s i < 2
digit_lt s i = mod-lt (s / 2 ^ i) (omega arith)

pub digit_and : (a b i : ℕ) → digit (bit_and a b) i ≡ min (digit a i) (digit b i)
digit_and a b i =
    let x = digit_lt a i in
    rw (and_shr a b i, and_step (a / 2 ^ i) (b / 2 ^ i)) (omega arith)

pub digit_or : (a b i : ℕ) → digit (bit_or a b) i ≡ max (digit a i) (digit b i)
digit_or a b i =
    let x = digit_lt a i in
    let y = digit_lt b i in
    rw (or_shr a b i, or_step (a / 2 ^ i) (b / 2 ^ i)) (omega arith)

pub digit-zero : (i : ℕ) → digit 0 i ≡ 0
digit-zero i = rw (zero-div (2 ^ i))

-- every number is below its own power
pub below-own-power : (n : ℕ) → n < 2 ^ n
below-own-power zero = omega arith
below-own-power (suc n) = let h = below-own-power n in let p = pow-suc 2 n in omega arith

-- The digit above a number's highest is 0.
pub digit-high : (s i : ℕ) → s < 2 ^ i → digit s i ≡ 0
digit-high s i h = rw (div-eq_of_lt h)

-- The digits of s / 2 are those of s, one place up.
pub digit-suc : (s i : ℕ) → digit s (suc i) ≡ digit (s / 2) i
digit-suc s i = rw (pow-suc 2 i, mul_comm (2 ^ i) 2, ← (div-div-eq-div-mul s 2 (2 ^ i)))

pub digit-first : (s : ℕ) → digit s 0 ≡ s % 2
digit-first s = rw (div-one s)

abbrev Same : ℕ → Type 0
Same x = (y : ℕ) → ((i : ℕ) → digit x i ≡ digit y i) → x ≡ y

no-digits : (y : ℕ) → ((i : ℕ) → digit y i ≡ 0) → y ≡ 0
no-digits = bin_ind (λ (y : ℕ). ((i : ℕ) → digit y i ≡ 0) → y ≡ 0) (λ e. refl) step
  where
    step : (y : ℕ) → (((i : ℕ) → digit (y / 2) i ≡ 0) → y / 2 ≡ 0) → ((i : ℕ) → digit y i ≡ 0) → y ≡ 0
    step y ih e =
        let low : y % 2 ≡ 0 = sym (digit-first y) ∙ e 0 in
        let high : y / 2 ≡ 0 = ih (λ i. sym (digit-suc y i) ∙ e (suc i)) in
        omega arith

-- Two numbers with the same digits are one.
pub digits_same : (a b : ℕ) → ((i : ℕ) → digit a i ≡ digit b i) → a ≡ b
digits_same = bin_ind Same (λ y e. sym (no-digits y (λ i. sym (e i) ∙ digit-zero i))) step
  where
    step : (x : ℕ) → Same (x / 2) → Same x
    step x ih y e =
        let low : x % 2 ≡ y % 2 = sym (digit-first x) ∙ e 0 ∙ digit-first y in
        let high : x / 2 ≡ y / 2 = ih (y / 2) (λ i. sym (digit-suc x i) ∙ e (suc i) ∙ digit-suc y i) in
        omega arith

-- The digits of 2 ^ v: a 1 at v, and nothing else.
pub digit-pow-same : (v : ℕ) → digit (2 ^ v) v ≡ 1
digit-pow-same v = rw (native.Mathlib.Nat.div_self (pow_pos v))

pub digit-pow-other : (v i : ℕ) → (i ≡ v → ⊥) → digit (2 ^ v) i ≡ 0
digit-pow-other v i n = ⊎_elim (λ lt. below lt) (λ lt. digit-high (2 ^ v) i (pow-lt lt)) (apart v i n)
  where
    apart : (v i : ℕ) → (i ≡ v → ⊥) → (i < v) ⊎ (v < i)
    apart v i n = ⊎_elim (λ h. inl h) (λ h. inr (lt_of_le-ne h (λ e. n (sym e)))) (less-or i v)

    below : i < v → digit (2 ^ v) i ≡ 0
    below lt =
        let e : v ≡ suc (v - suc i) + i = omega arith in
        let p : 2 ^ v ≡ 2 ^ suc (v - suc i) * 2 ^ i = ap (λ (n : ℕ). 2 ^ n) e ∙ pow-add 2 (suc (v - suc i)) i in
        let q : 2 ^ v / 2 ^ i ≡ 2 ^ suc (v - suc i) = ap (λ (n : ℕ). n / 2 ^ i) p ∙ shl-shr (2 ^ suc (v - suc i)) i in
        rw (q, pow-suc 2 (v - suc i)) (native.Mathlib.Nat.mul-mod_left (2 ^ (v - suc i)) 2)

-- The digits of the complement in a word of k places.
pub digit_not : (k a i : ℕ) → a < 2 ^ k → i < k → digit ((2 ^ k - 1) - a) i ≡ 1 - digit a i
digit_not zero a i h lt = absurd (native.Mathlib.Nat.not-suc-le-zero lt)
digit_not (suc k) a zero h lt =
    let p = pow-suc 2 k in
    let q = pow_pos k in
    rw (digit-first (2 ^ suc k - 1 - a), digit-first a) (omega arith)
digit_not (suc k) a (suc i) h lt =
    let p = pow-suc 2 k in
    let q = pow_pos k in
    let half : ((2 ^ suc k - 1) - a) / 2 ≡ (2 ^ k - 1) - a / 2 = omega arith in
    rw (digit-suc ((2 ^ suc k - 1) - a) i, digit-suc a i, half) (digit_not k (a / 2) i (omega arith) (native.Mathlib.Nat.le_of_suc-le-suc lt))

-- All digits of 2 ^ k - 1 are 1.
pub digit_ones : (k i : ℕ) → i < k → digit (2 ^ k - 1) i ≡ 1
digit_ones k i l =
    let d = digit_not k 0 i (pow_pos k) l in
    let z = digit-zero i in
    let e : 2 ^ k - 1 - 0 ≡ 2 ^ k - 1 = omega arith in
    subst (λ (x : ℕ). digit x i ≡ 1) e (omega arith)
