-- The number of the first question whose answer is no.
-- Assumes nothing.
use mathlib.Core.Path.{◌≡◌, refl, sym, ◌∙◌}
use mathlib.Core.List.{List, [], ◌∷◌, ◌++◌}
use mathlib.Core.Bool.{Bool, true, false}
use Prim.Native.Nat.{ℕ, ◌<◌}
use native.Mathlib.Omega.{arith}
use Rattle.vertex_set.proofs.Cases.{by_test}
use Rattle.sheet_format.specs.Rows.{Each}
use Rattle.sheet_format.specs.Read.{Asked, ask, first_no}

pub answer-yes : (n : ℕ) (b : Bool) (later : List Asked) → b ≡ true → first_no (ask n b ∷ later) ≡ first_no later
unfolding first_no
answer-yes n b later e = rw e

pub answer-no : (n : ℕ) (b : Bool) (later : List Asked) → b ≡ false → first_no (ask n b ∷ later) ≡ n
unfolding first_no
answer-no n b later e = rw e

-- where there is no no, each answer is a yes
pub all_yes : (n : ℕ) (b : Bool) (later : List Asked) → 0 < n → first_no (ask n b ∷ later) ≡ 0 → (b ≡ true) × (first_no later ≡ 0)
all_yes n b later p z =
    by_test b (λ e. (e, sym (answer-yes n b later e) ∙ z)) (λ e. absurd (let y = sym (answer-no n b later e) ∙ z in omega arith))

pub one-yes : (n : ℕ) (b : Bool) → 0 < n → first_no (ask n b ∷ []) ≡ 0 → b ≡ true
one-yes n b p z = (all_yes n b [] p z).0

-- questions behind others: a no among the first ones stays the first no, and yeses lead on
pub no-first : (xs ys : List Asked) → (first_no xs ≡ 0 → ⊥) → first_no xs ≡ first_no (xs ++ ys)
unfolding first_no
no-first [] ys n = absurd (n refl)
no-first (a ∷ xs) ys n = by_test a.answer (λ e. rw e (no-first xs ys (rw e at n))) (λ e. rw e)

pub yes-first : (xs ys : List Asked) → Each (λ a. 0 < a.number) xs → first_no xs ≡ 0 → first_no ys ≡ first_no (xs ++ ys)
unfolding first_no
yes-first [] ys p z = refl
yes-first (a ∷ xs) ys p z = by_test a.answer (λ e. rw e (yes-first xs ys p.1 (rw e at z))) (λ e. absurd (let y = rw e at z in let l = p.0 in omega arith))
