-- The set of the vertices that have a property, taken in one by one.
-- Assumes nothing.
use mathlib.Core.Path.{sym, subst}
use mathlib.Core.Logic.{inl, inr, ⊎_elim}
use Prim.Native.Nat.{ℕ, ◌+◌, ◌<◌}
use native.Mathlib.Omega.{arith}
use Rattle.vertex_set.specs.Set.{Inserted}
use Rattle.vertex_set.specs.Inner.{TakenBelow}
use Rattle.vertex_set.proofs.Cases.{same_or}
use Rattle.vertex_set.proofs.Sets.{none-in-zero}

module _ (P : ℕ → Type 0) where
  pub taken_none : TakenBelow P 0 0
  taken_none = record { each = λ i. record { to = λ m. absurd (none-in-zero i m); from = λ p. absurd (let l = p.0 in omega arith) } }

  module _ (v r : ℕ) (b : TakenBelow P v r) where
    -- a vertex that has it is taken in
    pub taken_more : (r' : ℕ) → v < 64 → P v → Inserted r v r' → TakenBelow P (v + 1) r'
    taken_more r' l p t =
        record {
          each = λ i. record {
            to = λ m. ⊎_elim (λ q. let h = (b.each i).to q in (let k = h.0 in omega arith, h.1)) (λ e. (omega arith, subst P (sym e) p)) ((t.taken l i).to m);
            from = λ h. (t.taken l i).from (⊎_elim (λ e. inr e) (λ n. inl ((b.each i).from (let k = h.0 in omega (arith, n), h.1))) (same_or i v));
          };
        }

    -- any other is left out
    pub taken-same : (P v → ⊥) → TakenBelow P (v + 1) r
    taken-same n =
        record {
          each = λ i. record {
            to = λ m. let h = (b.each i).to m in (let k = h.0 in omega arith, h.1);
            from = λ h. ⊎_elim (λ e. absurd (n (subst P e h.1))) (λ d. (b.each i).from (let k = h.0 in omega (arith, d), h.1)) (same_or i v);
          };
        }
