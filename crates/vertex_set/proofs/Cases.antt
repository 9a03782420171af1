-- Case distinctions: on a test's outcome, on the order of two numbers, on their equality.
-- Assumes nothing.
use mathlib.Core.Path.{◌≡◌, refl, subst}
use mathlib.Core.Bool.{Bool, true, false}
use mathlib.Core.Logic.{◌⊎◌, inl, inr, ⊎_elim}
use Prim.Native.Nat.{ℕ, zero, suc, ◌≤◌, ◌<◌}
use native.Mathlib.Nat.{not-suc-le-zero}
use native.Mathlib.Omega.{arith}
use lib.Dec.{ltb, eqb}
use borrow.Author.Tests.{ltb-true, ltb-false, eqb-true, eqb-false}

pub by_test {ℓ} : {P : Type ℓ} (t : Bool) → (t ≡ true → P) → (t ≡ false → P) → P
by_test true yes-case no-case = yes-case refl
by_test false yes-case no-case = no-case refl

pub less-or : (a b : ℕ) → (a < b) ⊎ (b ≤ a)
less-or a b = by_test (ltb a b) (λ e. inl (ltb-true a b e)) (λ e. inr (ltb-false a b e))

pub same_or : (a b : ℕ) → (a ≡ b) ⊎ (a ≡ b → ⊥)
same_or a b = by_test (eqb a b) (λ e. inl (eqb-true a b e)) (λ e. inr (eqb-false a b e))

pub false-true : ◌≡◌ {A = Bool} false true → ⊥
false-true e = let z : ◌≡◌ {A = ℕ} 0 1 = cc in omega arith

-- a search below n: some number has the property, or none has
pub search-below : (P : ℕ → Type 0) → ((k : ℕ) → P k ⊎ (P k → ⊥)) → (n : ℕ) → ((k : ℕ) × (k < n) × P k) ⊎ ((k : ℕ) → k < n → P k → ⊥)
search-below P dec zero = inr (λ k l. absurd (not-suc-le-zero l))
search-below P dec (suc n) = more (search-below P dec n) (dec n)
  where
    more : ((k : ℕ) × (k < n) × P k) ⊎ ((k : ℕ) → k < n → P k → ⊥) → P n ⊎ (P n → ⊥)
        → ((k : ℕ) × (k < suc n) × P k) ⊎ ((k : ℕ) → k < suc n → P k → ⊥)
    more (inl h) d = inl (h.0, let l = h.1 in omega arith, h.2)
    more (inr n') (inl p) = inl (n, omega arith, p)
    more (inr n') (inr q) = inr (λ k l p. ⊎_elim (λ e. q (subst P e p)) (λ d. n' k (omega (arith, d)) p) (same_or k n))

-- what some number has, a lowest one has
pub lowest : (P : ℕ → Type 0) → ((k : ℕ) → P k ⊎ (P k → ⊥)) → (n : ℕ) → P n → (k : ℕ) × P k × ((j : ℕ) → j < k → P j → ⊥)
lowest P dec n p = ⊎_elim (λ h. h) (λ none. (n, p, none)) (below n)
  where
    below : (m : ℕ) → ((k : ℕ) × P k × ((j : ℕ) → j < k → P j → ⊥)) ⊎ ((j : ℕ) → j < m → P j → ⊥)
    below zero = inr (λ j l. absurd (not-suc-le-zero l))
    below (suc m) =
        ⊎_elim (λ h. inl h)
        (λ none. ⊎_elim (λ q. inl (m, q, none)) (λ q. inr (λ j l r. ⊎_elim (λ e. q (subst P e r)) (λ d. none j (omega (arith, d)) r) (same_or j m))) (dec m))
        (below m)
