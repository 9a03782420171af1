-- The digits of a number, one more at a time.
-- Assumes nothing.
use mathlib.Core.Path.{◌≡◌, sym, ap, ◌∙◌}
use mathlib.Core.List.{List, [], ◌∷◌, ◌++◌, append_assoc}
use mathlib.Core.Logic.{⊎_elim}
use Prim.Native.Nat.{ℕ, zero, suc, ◌+◌, ◌/◌, ◌%◌, ◌^◌, ◌≤◌, ◌<◌}
use native.Mathlib.Nat.{pow-suc}
use native.Mathlib.Omega.{arith}
use borrow.Author.Tests.{lt-ltb, le-ltb}
use Rattle.vertex_set.proofs.Cases.{less-or}
use Rattle.sheet_format.specs.Fields.{digits_in, decimal}
use Rattle.sheet_format.proofs.Numbers.{digits_more}
use Rattle.writing.specs.Inner.{last_two}

pub decimal-one : (n : ℕ) → n < 10 → decimal n ≡ (48 + n) ∷ []
unfolding decimal digits_in
decimal-one n h = rw (lt-ltb n 10 h)

-- A place more makes no difference where there are enough.
digits-enough : (k n : ℕ) → n < 10 ^ suc k → digits_in (suc (suc k)) n ≡ digits_in (suc k) n
unfolding digits_in
digits-enough zero n h = rw (lt-ltb n 10 h)
digits-enough (suc k) n h =
    let p = pow-suc 10 (suc k) in
    ⊎_elim (λ l. rw (lt-ltb n 10 l))
    (λ l. rw (le-ltb n 10 l) (ap (λ (f : List ℕ). f ++ ((48 + n % 10) ∷ [])) (digits-enough k (n / 10) (omega arith))))
    (less-or n 10)

pub decimal-more : (n : ℕ) → 10 ≤ n → n < 2 ^ 64 → decimal n ≡ decimal (n / 10) ++ ((48 + n % 10) ∷ [])
unfolding decimal
decimal-more n l h =
    digits_more 19 n l ∙ ap (λ (f : List ℕ). f ++ ((48 + n % 10) ∷ [])) (sym (digits-enough 18 (n / 10) (omega arith)))

-- Two digits, and two more.

pub decimal-two : (n : ℕ) → 10 ≤ n → n < 100 → decimal n ≡ last_two n
decimal-two n l h =
    let e : n / 10 ≡ n / 10 % 10 = omega arith in
    decimal-more n l (omega arith) ∙ rw (decimal-one (n / 10) (omega arith)) (ap (λ (d : ℕ). (48 + d) ∷ (48 + n % 10) ∷ []) e)

pub decimal-hundred : (n : ℕ) → 100 ≤ n → n < 2 ^ 64 → decimal n ≡ decimal (n / 100) ++ last_two n
decimal-hundred n l h =
    let e : n / 10 / 10 ≡ n / 100 = omega arith in
    decimal-more n (omega arith) h
    ∙ rw (decimal-more (n / 10) (omega arith) (omega arith), e) (append_assoc (decimal (n / 100)) ((48 + n / 10 % 10) ∷ []) ((48 + n % 10) ∷ []))
