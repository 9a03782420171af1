-- The order of sets is total, a set that opens a target comes after the empty set, and question 21.
-- Assumes nothing.
use mathlib.Core.Path.{◌≡◌, sym, subst}
use mathlib.Core.Bool.{false}
use mathlib.Core.Logic.{◌⊎◌, inl, inr, ⊎_elim}
use Prim.Native.Nat.{ℕ}
use native.Mathlib.Omega.{arith}
use lib.Count.{ones}
use Rattle.vertex_set.specs.Set.{Member, Within}
use Rattle.vertex_set.specs.Order.{Before}
use Rattle.vertex_set.proofs.Cases.{same_or, less-or}
use Rattle.vertex_set.proofs.Sets.{none-in-zero}
use Rattle.vertex_set.proofs.Sorted.{before-one-way}
use Rattle.setup.specs.declared.Setup.{Setup}
use Rattle.setup.specs.Setup.{ChosenSet}
use Rattle.derivations.proofs.Closures.{nothing-opens}
use Rattle.bases.specs.Base.{MinimalSet}
use Rattle.next_sets.specs.Next.{OfInitial, NextSet}

pub before-trans : (x y z : ℕ) → Before x y → Before y z → Before x z
unfolding Before
before-trans x y z (inl p) (inl q) = inl (omega arith)
before-trans x y z (inl p) (inr q) = let e = q.0 in inl (omega arith)
before-trans x y z (inr p) (inl q) = let e = p.0 in inl (omega arith)
before-trans x y z (inr p) (inr q) = let e = p.0 in let f = q.0 in let g = p.1 in let h = q.1 in inr (omega arith, omega arith)

pub before-or : (x y : ℕ) → Before x y ⊎ ((x ≡ y) ⊎ Before y x)
unfolding Before
before-or x y =
    ⊎_elim (λ l. inl (inl l))
    (λ g. ⊎_elim
    (λ e. ⊎_elim (λ l. inl (inr (e, l))) (λ k. ⊎_elim (λ q. inr (inl q)) (λ d. inr (inr (inr (omega arith, omega (arith, d))))) (same_or x y)) (less-or x y))
    (λ d. inr (inr (inl (omega (arith, d)))))
    (same_or (ones x) (ones y)))
    (less-or (ones x) (ones y))

-- there is one next set
pub next-unique : (s : Setup) (target last x y : ℕ) → NextSet s target last x → NextSet s target last y → x ≡ y
next-unique s target last x y p q =
    ⊎_elim (λ e. e)
    (λ b. ⊎_elim (λ e. sym e) (λ k. absurd (before-one-way x y b k)) (q.first x p.is p.after))
    (p.first y q.is q.after)

-- ---- the empty set

-- nothing comes before the empty set
none-before-empty : (x : ℕ) → Before x 0 → ⊥
unfolding Before ones
none-before-empty x b = ⊎_elim (λ l. omega arith) (λ p. let l = p.1 in omega arith) b

pub after-empty : (s : Setup) (target x : ℕ) → MinimalSet false s s.graph target x → Before 0 x
after-empty s target x m =
    ⊎_elim
    (λ e. absurd (nothing-opens s.graph (Member x) (λ i k. none-in-zero i (subst (λ (z : ℕ). Member z i) e k)) target m.is.derives))
    (λ n. ⊎_elim (λ b. b) (⊎_elim (λ e. absurd (n (sym e))) (λ b. absurd (none-before-empty x b))) (before-or 0 x))
    (same_or x 0)

-- ---- question 21

-- a set has initial vertices alone exactly where it is within the set of these
module _ (s : Setup) (last initial : ℕ) (c : ChosenSet false s initial) where
  pub of-initial : Within last initial → OfInitial s last
  of-initial w = record { each = λ v m. (c.each v).to (w.each v m) }

  pub within-initial : OfInitial s last → Within last initial
  within-initial i = record { each = λ v m. (c.each v).from (i.each v m) }
