-- The order of the six kinds: its laws, and the rule of the table of 36 comparisons, by one computed test.
-- Assumes nothing.
use mathlib.Core.Path.{◌≡◌, refl}
use mathlib.Core.Bool.{Bool, true, false, ◌&&◌}
use mathlib.Core.List.{List, [], ◌∷◌}
use mathlib.Core.Logic.{◌⊎◌, inl, inr}
use Prim.Native.Nat.{ℕ, ◌≤◌, ◌<◌}
use native.Mathlib.Omega.{arith}
use lib.Dec.{eqb, leb}
use lib.ListN.{get_or}
use borrow.Author.Tests.{eqb-true}
use Rattle.vertex_set.specs.Set.{Decides}
use Rattle.vertex_set.proofs.Decisions.{decide_iff, decide-leb, decide-and}
use Rattle.vertex_set.proofs.Shifts.{all, all-at, flag}
use Rattle.reference.proofs.Tests.{by-decision}
use Rattle.attackers.specs.Attackers.{location, skill, KindAtMost}
use Rattle.attackers.specs.Inner.{BothAtMost}

-- ---- the order

pub at-most-refl : (a : ℕ) → KindAtMost a a
at-most-refl a = record { locations = omega arith; skills = omega arith }

pub at-most-trans : (a b c : ℕ) → KindAtMost a b → KindAtMost b c → KindAtMost a c
at-most-trans a b c p q =
    let w = p.locations in let x = p.skills in let y = q.locations in let z = q.skills in record { locations = omega arith; skills = omega arith }

pub at-most-same : (a b : ℕ) → KindAtMost a b → KindAtMost b a → a ≡ b
at-most-same a b p q = let w = p.locations in let x = p.skills in let y = q.locations in let z = q.skills in omega arith

-- what is at most as a kind is at most as a number
pub at-most-le : (a b : ℕ) → KindAtMost a b → a ≤ b
at-most-le a b h = let p = h.locations in let q = h.skills in omega arith

-- both parts compared
abbrev both_parts : ℕ → ℕ → Bool
both_parts a b = leb (location a) (location b) && leb (skill a) (skill b)

both-parts : (a b : ℕ) → Decides (KindAtMost a b) (both_parts a b)
both-parts a b =
    decide_iff (record { to = λ p. record { locations = p.0; skills = p.1 }; from = λ h. (h.locations, h.skills) })
    (decide-and _ _ (decide-leb (location a) (location b)) (decide-leb (skill a) (skill b)))

pub at-most-or : (a b : ℕ) → KindAtMost a b ⊎ (KindAtMost a b → ⊥)
at-most-or a b = by-decision (both_parts a b) (both-parts a b) (λ e h. inl h) (λ e n. inr n)

-- ---- the table, as the code has it

abbrev table : List (List Bool)
table =
    (true ∷ true ∷ true ∷ true ∷ true ∷ true ∷ [])
    ∷ (false ∷ true ∷ true ∷ false ∷ true ∷ true ∷ [])
    ∷ (false ∷ false ∷ true ∷ false ∷ false ∷ true ∷ [])
    ∷ (false ∷ false ∷ false ∷ true ∷ true ∷ true ∷ [])
    ∷ (false ∷ false ∷ false ∷ false ∷ true ∷ true ∷ [])
    ∷ (false ∷ false ∷ false ∷ false ∷ false ∷ true ∷ [])
    ∷ []

abbrev entry : ℕ → ℕ → Bool
entry a b = get_or (get_or table a []) b false

same_flag : (p q : Bool) → flag p ≡ flag q → p ≡ q
same_flag true true e = refl
same_flag false false e = refl
same_flag true false e = absurd (omega arith)
same_flag false true e = absurd (omega arith)

-- the entry is as both parts say
abbrev right : ℕ → ℕ → Bool
right a b = eqb (flag (entry a b)) (flag (both_parts a b))

tested : all (λ a. all (right a) 6) 6 ≡ true
tested = refl

right-at : (a b : ℕ) → a < 6 → b < 6 → entry a b ≡ both_parts a b
right-at a b ha hb =
    same_flag (entry a b) (both_parts a b)
    (eqb-true (flag (entry a b)) (flag (both_parts a b)) (all-at (right a) 6 (all-at (λ (a : ℕ). all (right a) 6) 6 tested a ha) b hb))

pub table_at : (a b : ℕ) → a < 6 → b < 6 → Decides (BothAtMost a b) (get_or (get_or table a []) b false)
table_at a b ha hb =
    let d = both-parts a b in
    rw (right-at a b ha hb) (decide_iff (record { to = λ h. record { first = ha; second = hb; is = h }; from = λ h. h.is }) d)
