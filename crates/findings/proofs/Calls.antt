-- A finding as a comparison of scores.
-- Assumes nothing.
use mathlib.Core.Bool.{Bool, true, false}
use Prim.Native.Nat.{ℕ, ◌≤◌, ◌<◌}
use native.Mathlib.Nat.{not-le_of_lt}
use Rattle.vertex_set.specs.Set.{Decides}
use Rattle.vertex_set.proofs.Decisions.{decide-no, decide_iff}
use Rattle.setup.specs.declared.Graph.{Graph}
use Rattle.setup.specs.declared.Setup.{Setup}
use Rattle.setup.specs.Setup.{vertex_at, WithoutRecovery}
use Rattle.formed.specs.WellFormed.{WellFormed}
use Rattle.bases.specs.Score.{Score}
use Rattle.reference.proofs.Graphs.{own-graph}
use Rattle.reference.proofs.Meaning.{meaning}
use Rattle.reference.specs.Bases.{score_of}
use Rattle.findings.specs.Findings.{Compared, FindsBackdoor, FindsIneffective, FindsInconsistent}

module _ (s : Setup) (v : ℕ) where
  pub backdoor-found : (less : Graph) → WithoutRecovery s less → (r r' : ℕ) → Score false s s.graph v r → Score false s less v r'
      → (b : Bool) → Decides (r < r') b → FindsBackdoor s v b
  backdoor-found less w r r' p q b d =
      let a : Compared false s v r r' = record { score = p; less = less; is_less = w; without = q } in
      record { score = r; without = r'; are = a; decides = decide_iff (record { to = λ l. record { are = a; below = l }; from = λ h. h.below }) d }

  pub ineffective-found : (less : Graph) → WithoutRecovery s less → (r r' : ℕ) → Score true s s.graph v r → Score true s less v r'
      → (b : Bool) → Decides (r ≤ r') b → FindsIneffective s v b
  ineffective-found less w r r' p q b d =
      let a : Compared true s v r r' = record { score = p; less = less; is_less = w; without = q } in
      record { score = r; without = r'; are = a; decides = decide_iff (record { to = λ l. record { are = a; most = l }; from = λ h. h.most }) d }

  module _ (w : ℕ) where
    -- ranks allow it, and scores decide
    pub inconsistent-scores : (vertex_at s w).rank < (vertex_at s v).rank → (r r' : ℕ) → Score false s s.graph v r → Score false s s.graph w r'
        → (b : Bool) → Decides (r ≤ r') b → FindsInconsistent s v w b
    inconsistent-scores k r r' p q b d =
        record {
          score = r;
          other = r';
          is_score = p;
          is_other = q;
          decides = decide_iff (record { to = λ l. record { score = p; other = q; rank = k; most = l }; from = λ h. h.most }) d;
        }

    -- ranks do not: whatever the scores are, and there are some
    pub inconsistent-ranks : WellFormed s → (vertex_at s v).rank ≤ (vertex_at s w).rank → FindsInconsistent s v w false
    inconsistent-ranks f k =
        record {
          score = score_of false s s.graph v;
          other = score_of false s s.graph w;
          is_score = (meaning s s.graph f (own-graph s f)).score false v;
          is_other = (meaning s s.graph f (own-graph s f)).score false w;
          decides = decide-no (λ h. not-le_of_lt h.rank k);
        }
