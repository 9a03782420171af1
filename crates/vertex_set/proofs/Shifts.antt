-- The members of a shifted set, and of a set's low and high part; tests that are computed at every number below a bound.
-- Assumes nothing.
use mathlib.Core.Path.{◌≡◌, refl, sym, ap, ◌∙◌, subst}
use mathlib.Core.Bool.{Bool, true, false}
use mathlib.Core.Logic.{⊎_elim}
use Prim.Native.Nat.{ℕ, zero, suc, ◌+◌, ◌-◌, ◌*◌, ◌/◌, ◌%◌, ◌^◌, ◌≤◌, ◌<◌}
use native.Mathlib.Nat.{mul-one}
use native.Mathlib.Numerals.{add-one}
use native.Mathlib.Omega.{arith}
use lib.Bits.{shifted_half, shifted_even}
use lib.Pow.{shr-shr, mod-mod-pow, field}
use Rattle.vertex_set.specs.Set.{Member, Iff}
use Rattle.vertex_set.proofs.Cases.{same_or, false-true}
use Rattle.vertex_set.proofs.Digits.{digit, digit-suc, digit-first}
use Rattle.vertex_set.proofs.Places.{in-first, in-later}

-- the low k members
pub low_first : (s k : ℕ) → s % 2 ^ suc k % 2 ≡ s % 2
low_first s k = subst (λ (n : ℕ). s % 2 ^ n % 2 ≡ s % 2) (add-one k) (mod-mod-pow s k 1)

pub low_half : (s k : ℕ) → s % 2 ^ suc k / 2 ≡ s / 2 % 2 ^ k
low_half s k = subst (λ (n : ℕ). s % 2 ^ n / 2 ≡ s / 2 % 2 ^ k) (add-one k) (field s k 1)

pub digit_low : (k i s : ℕ) → i < k → digit (s % 2 ^ k) i ≡ digit s i
digit_low zero i s h = absurd (omega arith)
digit_low (suc k) zero s h = rw (digit-first (s % 2 ^ suc k), digit-first s) (low_first s k)
digit_low (suc k) (suc i) s h =
    rw (digit-suc (s % 2 ^ suc k) i, digit-suc s i, low_half s k) (digit_low k i (s / 2) (omega arith))

pub in-low : (k i s : ℕ) → i < k → Iff (Member (s % 2 ^ k) i) (Member s i)
unfolding Member
in-low k i s h = let e = digit_low k i s h in record { to = λ m. sym e ∙ m; from = λ m. e ∙ m }

-- the members from k on
pub in-high : (k i s : ℕ) → Iff (Member (s / 2 ^ k) i) (Member s (k + i))
unfolding Member
in-high k i s =
    let e : digit (s / 2 ^ k) i ≡ digit s (k + i) = ap (λ (n : ℕ). n % 2) (shr-shr s k i) in
    record { to = λ m. sym e ∙ m; from = λ m. e ∙ m }

-- a shift to the left
pub in-shifted : (k i s : ℕ) → Iff (Member (s * 2 ^ k) i) ((k ≤ i) × Member s (i - k))
in-shifted zero i s =
    let e : s * 2 ^ 0 ≡ s = mul-one s in
    let f : i - 0 ≡ i = omega arith in
    rw (e, f) (record { to = λ m. (omega arith, m); from = λ p. p.1 })
in-shifted (suc k) zero s =
    record {
      to = λ m. let a = (in-first (s * 2 ^ suc k)).to m in let b = shifted_even s k in absurd (omega arith);
      from = λ p. absurd (omega (arith, p.0));
    }
in-shifted (suc k) (suc i) s =
    let ih = in-shifted k i s in
    let l = in-later (s * 2 ^ suc k) i in
    let e = shifted_half s k in
    let f : suc i - suc k ≡ i - k = omega arith in
    rw f (record {
      to = λ m. let r = ih.to (rw e at (l.to m)) in (omega (arith, r.0), r.1);
      from = λ p. l.from (rw e (ih.from (omega (arith, p.0), p.1)));
    })

-- ---- a test at every number below a bound

abbrev pub and_then : Bool → Bool → Bool
and_then true b = b
and_then false b = false

abbrev pub all : (ℕ → Bool) → ℕ → Bool
all t zero = true
all t (suc n) = and_then (all t n) (t n)

-- a yes or no as a digit, so that a table of them can be tested
abbrev pub flag : Bool → ℕ
flag true = 1
flag false = 0

then-left : (a b : Bool) → and_then a b ≡ true → a ≡ true
then-left true b e = refl
then-left false b e = e

then-right : (a b : Bool) → and_then a b ≡ true → b ≡ true
then-right true b e = e
then-right false b e = absurd (false-true e)

pub all-at : (t : ℕ → Bool) (n : ℕ) → all t n ≡ true → (i : ℕ) → i < n → t i ≡ true
all-at t zero e i h = absurd (omega arith)
all-at t (suc n) e i h =
    ⊎_elim (λ q. rw q (then-right (all t n) (t n) e)) (λ o. all-at t n (then-left (all t n) (t n) e) i (omega arith)) (same_or i n)
