-- Propositions that follow from each other; answers yes and no: how a decision is made, and carried from one proposition to another.
-- Assumes nothing.
use mathlib.Core.Path.{◌≡◌, refl, sym, ◌∙◌}
use mathlib.Core.Bool.{Bool, true, false, not, ◌&&◌, ◌||◌}
use mathlib.Core.Logic.{◌⊎◌, inl, inr, ⊎_elim}
use Prim.Native.Nat.{ℕ, ◌≤◌, ◌<◌}
use lib.Dec.{leb, ltb, eqb}
use borrow.Author.Tests.{leb-true, leb-false, ltb-true, ltb-false, eqb-true, eqb-false}
use native.Mathlib.Nat.{not-le_of_lt}
use Rattle.vertex_set.specs.Set.{Decides, Iff}
use Rattle.vertex_set.proofs.Cases.{by_test, false-true}

pub iff-refl : {P : Type 0} → Iff P P
iff-refl = record { to = λ p. p; from = λ p. p }

pub iff-trans : {P Q R : Type 0} → Iff P Q → Iff Q R → Iff P R
iff-trans p q = record { to = λ x. q.to (p.to x); from = λ x. p.from (q.from x) }

pub decide-yes : {P : Type 0} → P → Decides P true
decide-yes p = record { yes = λ e. p; no = λ e. absurd (false-true (sym e)) }

pub decide-no : {P : Type 0} → (P → ⊥) → Decides P false
decide-no n = record { yes = λ e. absurd (false-true e); no = λ e. n }

pub decide_iff : {P Q : Type 0} {r : Bool} → Iff P Q → Decides P r → Decides Q r
decide_iff i d = record { yes = λ e. i.to (d.yes e); no = λ e q. d.no e (i.from q) }

-- a test with a yes exactly where P holds decides P
pub decided : {P : Type 0} (t : Bool) → (t ≡ true → P) → (P → t ≡ true) → Decides P t
decided t to from = record { yes = to; no = λ e p. false-true (sym e ∙ from p) }

-- what is decided and holds has a yes; what does not hold, a no
pub yes_of : {P : Type 0} (t : Bool) → Decides P t → P → t ≡ true
yes_of t d p = by_test t (λ e. e) (λ e. absurd (d.no e p))

pub no_of : {P : Type 0} (t : Bool) → Decides P t → (P → ⊥) → t ≡ false
no_of t d n = by_test t (λ e. absurd (n (d.yes e))) (λ e. e)

-- ---- not, both, one of two

pub and_parts : (a b : Bool) → a && b ≡ true → (a ≡ true) × (b ≡ true)
and_parts true b e = (refl, e)
and_parts false b e = absurd (false-true e)

pub and_both : (a b : Bool) → a ≡ true → b ≡ true → a && b ≡ true
and_both true b p q = q
and_both false b p q = p

pub or_parts : (a b : Bool) → a || b ≡ true → (a ≡ true) ⊎ (b ≡ true)
or_parts true b e = inl refl
or_parts false b e = inr e

pub or_left : (a b : Bool) → a ≡ true → a || b ≡ true
or_left true b e = refl
or_left false b e = absurd (false-true e)

pub or_right : (a b : Bool) → b ≡ true → a || b ≡ true
or_right true b e = refl
or_right false b e = e

pub decide-not : {P : Type 0} (r : Bool) → Decides P r → Decides (P → ⊥) (not r)
decide-not true d = decide-no (λ n. n (d.yes refl))
decide-not false d = decide-yes (d.no refl)

pub decide-and : {P Q : Type 0} (a b : Bool) → Decides P a → Decides Q b → Decides (P × Q) (a && b)
decide-and true true d e = decide-yes (d.yes refl, e.yes refl)
decide-and true false d e = decide-no (λ p. e.no refl p.1)
decide-and false b d e = decide-no (λ p. d.no refl p.0)

pub decide-or : {P Q : Type 0} (a b : Bool) → Decides P a → Decides Q b → Decides (P ⊎ Q) (a || b)
decide-or true b d e = decide-yes (inl (d.yes refl))
decide-or false true d e = decide-yes (inr (e.yes refl))
decide-or false false d e = decide-no (⊎_elim (d.no refl) (e.no refl))

-- ---- tests of numbers

pub decide-leb : (a b : ℕ) → Decides (a ≤ b) (leb a b)
decide-leb a b = record { yes = leb-true a b; no = λ e h. not-le_of_lt (leb-false a b e) h }

pub decide-eqb : (a b : ℕ) → Decides (a ≡ b) (eqb a b)
decide-eqb a b = record { yes = eqb-true a b; no = eqb-false a b }

pub decide-ltb : (a b : ℕ) → Decides (a < b) (ltb a b)
decide-ltb a b = record { yes = ltb-true a b; no = λ e h. not-le_of_lt h (ltb-false a b e) }
