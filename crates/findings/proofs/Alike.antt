-- Graphs that are alike on the way to a vertex: it has the same derivations in both, and so the same scores.
-- Assumes nothing.
use mathlib.Core.Path.{◌≡◌, sym, subst, ◌∙◌}
use mathlib.Core.Bool.{Bool, true, false}
use Prim.Native.Nat.{ℕ}
use Rattle.vertex_set.specs.Set.{Member}
use Rattle.vertex_set.proofs.Sets.{same_set, one_set}
use Rattle.setup.specs.declared.Graph.{Graph}
use Rattle.setup.specs.declared.Setup.{Setup}
use Rattle.setup.specs.Setup.{row, Edge, WithoutRecovery}
use Rattle.derivations.specs.Derivation.{Vertices, Derivation}
use Rattle.derivations.specs.Both.{rule_of}
use Rattle.derivations.proofs.Rules.{held, closed, least}
use Rattle.derivations.proofs.Both.{lawful}
use Rattle.bases.specs.Base.{TargetSet}
use Rattle.bases.specs.Score.{Score}

-- The vertices of U need only one another, and have the same rows in both graphs.
pub record Alike (g g' : Graph) (U : Vertices) : Type 0 where
  pub needs : (f v c : ℕ) → U v → Edge g f v c → U f
  pub same : (v c : ℕ) → U v → row g v c ≡ row g' v c

pub alike-sym : (g g' : Graph) (U : Vertices) → Alike g g' U → Alike g' g U
alike-sym g g' U h =
    record {
      needs = λ f v c u m. h.needs f v c u (subst (λ (x : ℕ). Member x f) (sym (h.same v c u)) m);
      same = λ v c u. sym (h.same v c u);
    }

module _ (g g' : Graph) (U : Vertices) (h : Alike g g' U) where
  -- where it is one of U, it has a derivation in the other graph
  abbrev Derived : Bool → Vertices → Vertices
  Derived loss P i = U i → Derivation (rule_of loss g') P i

  allowed : (loss : Bool) (P : Vertices) (e : (rule_of loss g).Step) → (rule_of loss g).Allowed (Derived loss P) e → Derived loss P ((rule_of loss g).adds e)
  allowed false P e o u =
      closed (rule_of false g') (lawful false g') P e
      (record {
        coloured = λ z. o.coloured (h.same e.vertex e.colour u ∙ z);
        complete = λ i m.
            let k = subst (λ (x : ℕ). Member x i) (sym (h.same e.vertex e.colour u)) m in
            o.complete i k (h.needs i e.vertex e.colour u k);
      })
  allowed true P v o u =
      closed (rule_of true g') (lawful true g') P v
      (record {
        colour = o.colour;
        coloured = λ z. o.coloured (h.same v o.colour u ∙ z);
        every = λ c n.
            let l = o.every c (λ z. n (sym (h.same v c u) ∙ z)) in
            record {
              vertex = l.vertex;
              member = subst (λ (x : ℕ). Member x l.vertex) (h.same v c u) l.member;
              gone = l.gone (h.needs l.vertex v c u l.member);
            };
      })

  pub derivation-alike : (loss : Bool) (P : Vertices) (v : ℕ) → U v → Derivation (rule_of loss g) P v → Derivation (rule_of loss g') P v
  derivation-alike loss P v u d =
      least (rule_of loss g) (lawful loss g) P (Derived loss P) (λ i p w. held (rule_of loss g') P i p) (allowed loss P) v d u

  pub target-alike : (loss : Bool) (s : Setup) (v x : ℕ) → U v → TargetSet loss s g v x → TargetSet loss s g' v x
  target-alike loss s v x u t = record { chosen = t.chosen; derives = derivation-alike loss (Member x) v u t.derives }

pub score-alike : (g g' : Graph) (U : Vertices) → Alike g g' U → (loss : Bool) (s : Setup) (v r : ℕ) → U v → Score loss s g v r → Score loss s g' v r
score-alike g g' U h loss s v r u a =
    record {
      none = λ n. a.none (λ x t. n x (to x t));
      some = λ x t. a.some x (from x t);
      least = λ x t. a.least x (from x t);
      reached = λ l. let w = a.reached l in (w.0, to w.0 w.1, w.2);
    }
  where
    to : (x : ℕ) → TargetSet loss s g v x → TargetSet loss s g' v x
    to x = target-alike g g' U h loss s v x u

    from : (x : ℕ) → TargetSet loss s g' v x → TargetSet loss s g v x
    from x = target-alike g' g U (alike-sym g g' U h) loss s v x u

-- there is but one graph without recovery, as far as rows tell
pub without-alike : (s : Setup) (g g' : Graph) → WithoutRecovery s g → WithoutRecovery s g' → Alike g g' (λ v. Unit {0})
without-alike s g g' a b =
    record {
      needs = λ f v c u m. tt;
      same = λ v c u. one_set _ (row g v c) (row g' v c) (λ f. a.each f v c) (λ f. b.each f v c);
    }

-- it is the setup's own where no recovery edge is on the way
pub recovery-alike : (s : Setup) (less : Graph) (U : Vertices) → WithoutRecovery s less → ((f v c : ℕ) → U v → Edge s.graph f v c → U f)
    → ((f v c : ℕ) → U v → Edge s.recovery f v c → ⊥) → Alike s.graph less U
recovery-alike s less U a needs none =
    record {
      needs = needs;
      same = λ v c u. same_set (row s.graph v c) (row less v c)
          (record { each = λ f m. (a.each f v c).from (m, λ e. none e v c u) })
          (record { each = λ f m. ((a.each f v c).to m).0 });
    }
