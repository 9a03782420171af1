-- Inner: scores, risks and findings of all vertices.
use Rattle.std.specs.Prelude.{◌≡◌, true, false, List, ℕ, ◌<◌}
use Rattle.vertex_set.specs.Set.{Member, Iff}
use Rattle.scores.specs.Inner.Lists.{security_at, recoverability_at}
use Rattle.setup.specs.declared.Graph.{Graph}
use Rattle.setup.specs.declared.Setup.{Setup}
use Rattle.setup.specs.Setup.{ChosenSet}
use Rattle.report_scores.specs.Inner.Scores.{BaseTable, Scored}
use Rattle.derivations.specs.Both.{rule_of}
use Rattle.reference.specs.Bases.{score_of}
use Rattle.report_text.specs.Report.{is_backdoor, is_idle}
use Rattle.report_facts.specs.declared.figures.Scores.{Scores}
use Rattle.report_facts.specs.declared.figures.Findings.{Findings}

-- The tables are those of the graph, and r has the scores and risks of all vertices in it.
pub record BothScored (s : Setup) (g : Graph) (opening lockout : List ℕ) (r : Scores) : Type 0 where
  pub security : Scored false s g opening (λ (v : ℕ). security_at r.scores v)
  pub recoverability : Scored true s g lockout (λ (v : ℕ). recoverability_at r.risks v)

-- The tables are those with recovery, and r has the scores, risks and findings of all vertices.
pub record FindingsOf (s : Setup) (opening lockout : List ℕ) (r : Findings) : Type 0 where
  pub opens : (chosen : ℕ) → ChosenSet false s chosen → BaseTable (rule_of false s.graph) chosen opening
  pub locks : (chosen : ℕ) → ChosenSet true s chosen → BaseTable (rule_of true s.graph) chosen lockout
  pub scores : (v : ℕ) → v < 64 → security_at r.scores v ≡ score_of false s s.graph v
  pub risks : (v : ℕ) → v < 64 → recoverability_at r.risks v ≡ score_of true s s.graph v
  pub back : (v : ℕ) → v < 64 → Iff (Member r.back.0 v) (is_backdoor s v ≡ true)
  pub idle : (v : ℕ) → v < 64 → Iff (Member r.idle.0 v) (is_idle s v ≡ true)
