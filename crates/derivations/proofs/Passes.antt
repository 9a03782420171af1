-- Passes by a lawful rule: they lead to the closure, there is one number of them, and it has a bound.
-- Assumes nothing.
use mathlib.Core.Path.{◌≡◌, refl, sym, ap, subst, ◌∙◌}
use mathlib.Core.Logic.{◌⊎◌, inl, inr, ⊎_elim}
use Prim.Native.Nat.{ℕ, zero, suc, ◌+◌, ◌≤◌, ◌<◌}
use native.Mathlib.Omega.{arith}
use Rattle.vertex_set.specs.Set.{Member, Within, count_outside}
use Rattle.vertex_set.proofs.Outside.{outside-falls}
use Rattle.vertex_set.proofs.Sets.{same_set, one_set}
use Rattle.derivations.specs.Derivation.{Rule, Derivation, Closure}
use Rattle.derivations.specs.Passes.{Allows, Pass, Passes}
use Rattle.derivations.proofs.Rules.{Lawful, held, monotone, closed, least, twice}

module _ (r : Rule) where
  -- ---- one pass

  pub pass-grows : (s t : ℕ) → Pass r s t → Within s t
  pass-grows s t p = record { each = λ v m. (p.each v).from (inl m) }

  pub pass-unique : (s t t' : ℕ) → Pass r s t → Pass r s t' → t ≡ t'
  pass-unique s t t' p q = one_set (λ v. Member s v ⊎ Allows r (Member s) v) t t' p.each q.each

  -- ---- the number of passes and where they lead

  pub passes-unique : (n n' s t t' : ℕ) → Passes r n s t → Passes r n' s t' → (n ≡ n') × (t ≡ t')
  passes-unique zero n' s t t' p q = absurd p
  passes-unique (suc n) zero s t t' p q = absurd q
  passes-unique (suc n) (suc n') s t t' (inl a) (inl b) = (ap suc (a.1 ∙ sym b.1), a.2 ∙ sym b.2)
  passes-unique (suc n) (suc n') s t t' (inl a) (inr b) = absurd (b.2 (pass-unique s b.0 s b.1 a.0))
  passes-unique (suc n) (suc n') s t t' (inr a) (inl b) = absurd (a.2 (pass-unique s a.0 s a.1 b.0))
  passes-unique (suc n) (suc n') s t t' (inr a) (inr b) =
      let e = pass-unique s b.0 a.0 b.1 a.1 in
      let h = passes-unique n n' a.0 t t' a.3 (subst (λ (u : ℕ). Passes r n' u t') e b.3) in
      (ap suc h.0, h.1)

  -- where each vertex that is allowed is below k, there are at most as many passes as vertices outside of the set, and one more
  pub passes-most : (k : ℕ) → ((u v : ℕ) → Allows r (Member u) v → v < k) → (n s t : ℕ) → Passes r n s t → n ≤ count_outside k s + 1
  passes-most k below zero s t p = absurd p
  passes-most k below (suc n) s t (inl a) = let z = a.1 in omega arith
  passes-most k below (suc n) s t (inr a) =
      let h = passes-most k below n a.0 t a.3 in
      let f = outside-falls k s a.0 (pass-grows s a.0 a.1) a.2 (λ v m. ⊎_elim (λ x. inl x) (λ x. inr (below s v x)) ((a.1.each v).to m)) in
      omega arith

  module _ (law : Lawful r) where
    -- what a pass adds is derivable
    pub pass-sound : (s t : ℕ) → Pass r s t → (v : ℕ) → Member t v → Derivation r (Member s) v
    pass-sound s t p v m =
        ⊎_elim (held r (Member s) v)
        (λ a. subst (Derivation r (Member s)) (sym a.adds)
        (closed r law (Member s) a.step (law.mono (Member s) (Derivation r (Member s)) (held r (Member s)) a.step a.allowed)))
        ((p.each v).to m)

    -- a set to which a pass adds nothing is closed
    pub idle-closed : (s : ℕ) → Pass r s s → Closure r s s
    idle-closed s p =
        record {
          each = λ v. record {
            to = held r (Member s) v;
            from = least r law (Member s) (Member s) (λ i m. m) (λ e a. (p.each (r.adds e)).from (inr (record { step = e; allowed = a; adds = refl }))) v;
          };
        }

    -- what the passes reach is the closure
    pub passes-closure : (n s t : ℕ) → Passes r n s t → Closure r s t
    passes-closure zero s t p = absurd p
    passes-closure (suc n) s t (inl a) = subst (Closure r s) (sym a.2) (idle-closed s a.0)
    passes-closure (suc n) s t (inr a) =
        let u = a.0 in
        let c = passes-closure n u t a.3 in
        record {
          each = λ v. record {
            to = λ m. (twice r law (Member s) v).to (monotone r law (Member u) (Derivation r (Member s)) (pass-sound s u a.1) v ((c.each v).to m));
            from = λ d. (c.each v).from (monotone r law (Member s) (Member u) (pass-grows s u a.1).each v d);
          };
        }

    -- a set that is closed already takes one pass
    pub closed-once : (n s t : ℕ) → Closure r s s → Passes r n s t → n ≡ 1
    closed-once zero s t c p = absurd p
    closed-once (suc n) s t c (inl a) = ap suc a.1
    closed-once (suc n) s t c (inr a) =
        absurd (a.2 (same_set a.0 s (record { each = λ v m. (c.each v).from (pass-sound s a.0 a.1 v m) }) (pass-grows s a.0 a.1)))
