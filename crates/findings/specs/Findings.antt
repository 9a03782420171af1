-- Findings (document 003, definitions 26 to 28; document 01, "Scores and findings"; without recovery as in document 02, point 3). Scores are
-- compared as numbers: "never" is 2^62, above every sum of values and equal to itself, so never against never is at most, and not below.
use Rattle.std.specs.Prelude.{Bool, true, false, ℕ, ◌≤◌, ◌<◌}
use Rattle.vertex_set.specs.Set.{Decides}
use Rattle.setup.specs.declared.Graph.{Graph}
use Rattle.setup.specs.declared.Setup.{Setup}
use Rattle.setup.specs.Setup.{vertex_at, WithoutRecovery}
use Rattle.derivations.specs.Derivation.{Vertices}
use Rattle.derivations.specs.Access.{HasAccess}
use Rattle.bases.specs.Score.{Score}

-- The scores of v, all of one kind: r in the graph, r' in the graph without recovery.
pub record Compared (loss : Bool) (s : Setup) (v r r' : ℕ) : Type 0 where
  pub score : Score loss s s.graph v r
  pub less : Graph
  pub is_less : WithoutRecovery s less
  pub without : Score loss s less v r'

-- Definition 26: v has a backdoor, if its security score is below that without recovery.
pub record Backdoor (s : Setup) (v r r' : ℕ) : Type 0 where
  pub are : Compared false s v r r'
  pub below : r < r'

-- Definition 27 (document 01: idle): v's recovery is ineffective, if its recoverability score is at most that without recovery.
pub record IneffectiveRecovery (s : Setup) (v r r' : ℕ) : Type 0 where
  pub are : Compared true s v r r'
  pub most : r ≤ r'

-- Definition 28 (document 01: out of rank): v and w are inconsistent, if v has the higher rank and its security score is at most that of w.
pub record Inconsistent (s : Setup) (v w r r' : ℕ) : Type 0 where
  pub score : Score false s s.graph v r
  pub other : Score false s s.graph w r'
  pub rank : (vertex_at s w).rank < (vertex_at s v).rank
  pub most : r ≤ r'

-- ---- the answers: there are scores r and r', and the answer is yes exactly where they make the finding

-- The answer is yes exactly where v has a backdoor (definition 26).
pub record FindsBackdoor (s : Setup) (v : ℕ) (answer : Bool) : Type 0 where
  pub score : ℕ
  pub without : ℕ
  pub are : Compared false s v score without
  pub decides : Decides (Backdoor s v score without) answer

-- The answer is yes exactly where v's recovery is ineffective (definition 27; document 01: idle).
pub record FindsIneffective (s : Setup) (v : ℕ) (answer : Bool) : Type 0 where
  pub score : ℕ
  pub without : ℕ
  pub are : Compared true s v score without
  pub decides : Decides (IneffectiveRecovery s v score without) answer

-- The answer is yes exactly where v and w are inconsistent (definition 28; document 01: out of rank).
pub record FindsInconsistent (s : Setup) (v w : ℕ) (answer : Bool) : Type 0 where
  pub score : ℕ
  pub other : ℕ
  pub is_score : Score false s s.graph v score
  pub is_other : Score false s s.graph w other
  pub decides : Decides (Inconsistent s v w score other) answer

-- ---- without recovery no route is easier (document 02, point 3)

-- Whoever opens v without recovery opens it with recovery; so the security score without recovery is at least that with it. Where only the recovery
-- edges are taken out this is false: what is left of their colour takes less than before. Of losses nothing like it holds.
pub record NoEasierRoute (s : Setup) : Type 1 where
  pub opens : (g : Graph) → WithoutRecovery s g → (held : Vertices) (v : ℕ) → HasAccess g held v → HasAccess s.graph held v
  pub score : (v r r' : ℕ) → Compared false s v r r' → r ≤ r'
