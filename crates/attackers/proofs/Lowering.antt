-- Kinds looked at one by one, each behind all that are below it: those kept are the lowest.
-- Assumes nothing.
use mathlib.Core.Path.{◌≡◌, refl, sym, subst}
use mathlib.Core.Logic.{◌⊎◌, inl, inr, ⊎_elim}
use Prim.Native.Nat.{ℕ, ◌+◌, ◌<◌}
use native.Mathlib.Omega.{arith}
use Rattle.vertex_set.specs.Set.{Member, Inserted}
use Rattle.vertex_set.proofs.Cases.{same_or}
use Rattle.vertex_set.proofs.Sets.{none-in-zero}
use Rattle.attackers.specs.Attackers.{KindAtMost}
use Rattle.attackers.specs.Inner.{BothAtMost, BothWeaker, SomeWeaker, LowestKinds}
use Rattle.attackers.proofs.Table.{at-most-refl, at-most-trans, at-most-le}

pub both-trans : (a b c : ℕ) → BothAtMost a b → BothAtMost b c → BothAtMost a c
both-trans a b c p q = record { first = p.first; second = q.second; is = at-most-trans a b c p.is q.is }

-- what is below is the smaller number
pub weaker-less : (a b : ℕ) → BothWeaker a b → a < b
weaker-less a b w = let l = at-most-le a b w.at_most.is in ⊎_elim (λ e. absurd (w.other e)) (λ d. omega (arith, d)) (same_or a b)

module _ (P : ℕ → Type 0) where
  -- Of the kinds below t, r has the lowest with the property.
  pub record Lowering (t r : ℕ) : Type 0 where
    pub is : (k : ℕ) → Member r k → (k < t) × P k
    pub lowest : (k j : ℕ) → Member r k → P j → BothWeaker j k → ⊥
    pub cover : (j : ℕ) → j < t → P j → (i : ℕ) × Member r i × BothAtMost i j

  pub lowering-none : Lowering 0 0
  lowering-none =
      record { is = λ k m. absurd (none-in-zero k m); lowest = λ k j m. absurd (none-in-zero k m); cover = λ j l. absurd (omega arith) }

  module _ (t r : ℕ) (small : t < 6) (h : Lowering t r) where
    -- t need not be kept: one of those kept is at most t, if t has the property
    kept : (P t → (i : ℕ) × Member r i × BothAtMost i t) → Lowering (t + 1) r
    kept c =
        record {
          is = λ k m. let p = h.is k m in (let l = p.0 in omega arith, p.1);
          lowest = h.lowest;
          cover = λ j l o. ⊎_elim (λ e. subst (λ (x : ℕ). (i : ℕ) × Member r i × BothAtMost i x) (sym e) (c (subst P e o)))
              (λ d. h.cover j (omega (arith, d)) o) (same_or j t);
        }

    pub lowering-above : SomeWeaker r t → Lowering (t + 1) r
    lowering-above s = kept (λ o. (s.attacker, s.member, s.weaker.at_most))

    pub lowering-not : (P t → ⊥) → Lowering (t + 1) r
    lowering-not n = kept (λ o. absurd (n o))

    pub lowering-more : (r' : ℕ) → (SomeWeaker r t → ⊥) → P t → Inserted r t r' → Lowering (t + 1) r'
    lowering-more r' n o i =
        record {
          is = λ k m. ⊎_elim (λ p. let q = h.is k p in (let l = q.0 in omega arith, q.1))
              (λ e. (omega arith, subst P (sym e) o)) (taken k m);
          lowest = λ k j m oj w. ⊎_elim (λ p. h.lowest k j p oj w) (λ e. new j oj (subst (BothWeaker j) e w)) (taken k m);
          cover = λ j l oj. ⊎_elim
              (λ e. (t, (i.taken (omega arith) t).from (inr refl), record { first = small; second = omega (arith, e); is = subst (KindAtMost t) (sym e) (at-most-refl t) }))
              (λ d. let c = h.cover j (omega (arith, d)) oj in (c.0, (i.taken (omega arith) c.0).from (inl c.1), c.2)) (same_or j t);
        }
      where
        taken : (k : ℕ) → Member r' k → Member r k ⊎ (k ≡ t)
        taken k m = (i.taken (omega arith) k).to m

        -- nothing with the property is below t: what covers it would be
        new : (j : ℕ) → P j → BothWeaker j t → ⊥
        new j oj w =
            let l = weaker-less j t w in
            let c = h.cover j l oj in
            let le = at-most-le c.0 j c.2.is in
            n (record { attacker = c.0; member = c.1; weaker = record { at_most = both-trans c.0 j t c.2 w.at_most; other = λ e. omega (arith, e) } })

  pub lowering-done : (r : ℕ) → Lowering 6 r → LowestKinds P r
  lowering-done r h = record { is = h.is; lowest = h.lowest; cover = h.cover }
