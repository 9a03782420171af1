-- The theory of monotone rules: what is derivable grows with what is held, deriving from what is derivable adds nothing, and
-- the derivable vertices are the least that have what is held and all that they allow. Access and lockout are two instances.
-- Assumes nothing.
use mathlib.Core.Path.{refl, sym, subst}
use mathlib.Core.List.{List, [], ◌∷◌, ◌++◌}
use mathlib.Core.Logic.{◌⊎◌, inl, inr, ⊎_elim}
use Prim.Native.Nat.{ℕ, zero, suc, ◌+◌, ◌<◌}
use native.Mathlib.Nat.{not-suc-le-zero}
use native.Mathlib.Omega.{arith}
use Rattle.vertex_set.specs.Set.{Iff}
use Rattle.vertex_set.proofs.Cases.{same_or}
use Rattle.derivations.specs.Derivation.{Vertices, Rule, With, Run, Adds, Derivation}

-- One collection of vertices lies within another.
abbrev pub Sub : Vertices → Vertices → Type 0
Sub P Q = (i : ℕ) → P i → Q i

-- What is held once a run has added all of its vertices.
abbrev pub After : (r : Rule) → Vertices → List r.Step → Vertices
After r P d i = P i ⊎ Adds r d i

-- A rule is lawful: who holds more may do more; and where the vertices that allow a step are derivable, one run adds enough of them.
pub record Lawful (r : Rule) : Type 1 where
  pub mono : (P Q : Vertices) → Sub P Q → (e : r.Step) → r.Allowed P e → r.Allowed Q e
  pub gathers : (P : Vertices) (e : r.Step) → r.Allowed (Derivation r P) e → (d : List r.Step) × Run r P d × r.Allowed (After r P d) e

module _ (r : Rule) where
  -- ---- lists of steps

  pub adds-left : (d d' : List r.Step) (v : ℕ) → Adds r d v → Adds r (d ++ d') v
  adds-left [] d' v a = absurd a
  adds-left (e ∷ d) d' v (inl q) = inl q
  adds-left (e ∷ d) d' v (inr a) = inr (adds-left d d' v a)

  pub adds-right : (d d' : List r.Step) (v : ℕ) → Adds r d' v → Adds r (d ++ d') v
  adds-right [] d' v a = a
  adds-right (e ∷ d) d' v a = inr (adds-right d d' v a)

  -- the empty run derives what is held
  pub held : (P : Vertices) (v : ℕ) → P v → Derivation r P v
  held P v p = record { steps = []; run = tt; has = inl p }

  module _ (mono : (P Q : Vertices) → Sub P Q → (e : r.Step) → r.Allowed P e → r.Allowed Q e) where
    pub run-mono : (P Q : Vertices) → Sub P Q → (d : List r.Step) → Run r P d → Run r Q d
    run-mono P Q s [] t = tt
    run-mono P Q s (e ∷ d) t =
        (mono P Q s e t.0, run-mono (With P (r.adds e)) (With Q (r.adds e)) (λ i. ⊎_elim (λ p. inl (s i p)) (λ q. inr q)) d t.1)

    pub run-append : (P : Vertices) (d d' : List r.Step) → Run r P d → Run r (After r P d) d' → Run r P (d ++ d')
    run-append P [] d' t t' = run-mono (After r P []) P (λ i. ⊎_elim (λ p. p) absurd) d' t'
    run-append P (e ∷ d) d' t t' =
        (t.0, run-append (With P (r.adds e)) d d' t.1 (run-mono (After r P (e ∷ d)) (After r (With P (r.adds e)) d) shift d' t'))
      where
        shift : Sub (After r P (e ∷ d)) (After r (With P (r.adds e)) d)
        shift i (inl p) = inl (inl p)
        shift i (inr (inl q)) = inl (inr q)
        shift i (inr (inr a)) = inr a

    pub derivation-mono : (P Q : Vertices) → Sub P Q → Sub (Derivation r P) (Derivation r Q)
    derivation-mono P Q s v d =
        record { steps = d.steps; run = run-mono P Q s d.steps d.run; has = ⊎_elim (λ p. inl (s v p)) (λ a. inr a) d.has }

    -- one run for finitely many vertices: for each k below n with M k, one that the rule may choose
    pub gather : (P : Vertices) (M : ℕ → Type 0) (W : ℕ → ℕ → Type 0) → ((k : ℕ) → M k ⊎ (M k → ⊥))
        → ((k : ℕ) → M k → (i : ℕ) × W k i × Derivation r P i) → (n : ℕ)
        → (d : List r.Step) × Run r P d × ((k : ℕ) → k < n → M k → (i : ℕ) × W k i × After r P d i)
    gather P M W dec each zero = ([], tt, λ k l. absurd (not-suc-le-zero l))
    gather P M W dec each (suc n) = more (gather P M W dec each n) (dec n)
      where
        more : (d : List r.Step) × Run r P d × ((k : ℕ) → k < n → M k → (i : ℕ) × W k i × After r P d i) → M n ⊎ (M n → ⊥)
            → (d : List r.Step) × Run r P d × ((k : ℕ) → k < suc n → M k → (i : ℕ) × W k i × After r P d i)
        more h (inr no-case) =
            (h.0, h.1, λ k l m. ⊎_elim (λ q. absurd (no-case (subst M q m))) (λ q. h.2 k (omega arith) m) (same_or k n))
        more h (inl m) =
            let w = each n m in
            let d = w.2 in (
              h.0 ++ d.steps,
              run-append P h.0 d.steps h.1 (run-mono P (After r P h.0) (λ i p. inl p) d.steps d.run),
              λ k l mk. ⊎_elim
                  (λ q. (w.0, subst (λ (x : ℕ). W x w.0) (sym q) w.1, ⊎_elim (λ p. inl p) (λ a. inr (adds-right h.0 d.steps w.0 a)) d.has))
                  (λ q. let o = h.2 k (omega arith) mk in (o.0, o.1, ⊎_elim (λ p. inl p) (λ a. inr (adds-left h.0 d.steps o.0 a)) o.2))
                  (same_or k n),
            )

  -- what has the start and all that it allows has all that a run adds
  pub least-run : (P Q : Vertices) (d : List r.Step) → ((P Q : Vertices) → Sub P Q → (e : r.Step) → r.Allowed P e → r.Allowed Q e)
      → Sub P Q → ((e : r.Step) → r.Allowed Q e → Q (r.adds e)) → Run r P d → Sub (After r P d) Q
  least-run P Q [] mono s cl t i a = ⊎_elim (s i) absurd a
  least-run P Q (e ∷ d) mono s cl t i a =
      least-run (With P (r.adds e)) Q d mono within cl t.1 i (shift a)
    where
      within : Sub (With P (r.adds e)) Q
      within j (inl p) = s j p
      within j (inr q) = subst Q (sym q) (cl e (mono P Q s e t.0))

      shift : After r P (e ∷ d) i → After r (With P (r.adds e)) d i
      shift (inl p) = inl (inl p)
      shift (inr (inl q)) = inl (inr q)
      shift (inr (inr b)) = inr b

  module _ (law : Lawful r) where
    -- more is derivable from more
    pub monotone : (P Q : Vertices) → Sub P Q → Sub (Derivation r P) (Derivation r Q)
    monotone = derivation-mono law.mono

    -- what derivable vertices allow is derivable
    pub closed : (P : Vertices) (e : r.Step) → r.Allowed (Derivation r P) e → Derivation r P (r.adds e)
    closed P e a =
        let h = law.gathers P e a in
        record {
          steps = h.0 ++ (e ∷ []);
          run = run-append law.mono P h.0 (e ∷ []) h.1 (h.2, tt);
          has = inr (adds-right h.0 (e ∷ []) (r.adds e) (inl refl));
        }

    -- the derivable vertices are within everything that has the start and all that it allows
    pub least : (P Q : Vertices) → Sub P Q → ((e : r.Step) → r.Allowed Q e → Q (r.adds e)) → Sub (Derivation r P) Q
    least P Q s cl v d = least-run P Q d.steps law.mono s cl d.run v d.has

    -- closing twice changes nothing
    pub twice : (P : Vertices) (v : ℕ) → Iff (Derivation r (Derivation r P) v) (Derivation r P v)
    twice P v = record { to = least (Derivation r P) (Derivation r P) (λ i p. p) (closed P) v; from = held (Derivation r P) v }

    -- the closure of A and B together is the closure of (the closure of A) and B together
    pub union : (A B : Vertices) (v : ℕ) → Iff (Derivation r (λ i. A i ⊎ B i) v) (Derivation r (λ i. Derivation r A i ⊎ B i) v)
    union A B v =
        record {
          to = monotone (λ i. A i ⊎ B i) (λ i. Derivation r A i ⊎ B i) (λ i. ⊎_elim (λ a. inl (held A i a)) (λ b. inr b)) v;
          from = least (λ i. Derivation r A i ⊎ B i) (Derivation r (λ i. A i ⊎ B i)) within (closed (λ i. A i ⊎ B i)) v;
        }
      where
        within : Sub (λ i. Derivation r A i ⊎ B i) (Derivation r (λ i. A i ⊎ B i))
        within i (inl d) = monotone A (λ j. A j ⊎ B j) (λ j a. inl a) i d
        within i (inr b) = held (λ j. A j ⊎ B j) i (inr b)
