-- Inner: sets of vertices by their figures.
use Rattle.std.specs.Prelude.{◌≡◌, Bool, true, List, ℕ, ◌≤◌, ◌<◌, get_or}
use Rattle.vertex_set.specs.Set.{Member}
use Rattle.vertex_set.specs.Inner.{TakenBelow}
use Rattle.scores.specs.Kinds.{SecurityScore}
use Rattle.scores.specs.Kinds.{RecoverabilityScore}
use Rattle.scores.specs.Inner.Lists.{security_at, recoverability_at}
use Rattle.setup.specs.declared.Setup.{Setup}
use Rattle.setup.specs.Setup.{vertex_at}
use Rattle.report_text.specs.Report.{is_account}

-- r is the set of the vertices below n that pass the test, whichever property of a vertex it tells: R v b, that it may answer b at v.
pub record PlacesBy (R : ℕ → Bool → Type 0) (n r : ℕ) : Type 0 where
  pub each : (p : ℕ → Bool) → ((v : ℕ) (b : Bool) → v < 64 → R v b → b ≡ p v) → TakenBelow (λ v. p v ≡ true) n r

-- r is the set of the setup's accounts.
abbrev pub AccountSet : Setup → ℕ → Type 0
AccountSet s r = TakenBelow (λ v. is_account s v ≡ true) 64 r

-- r is the set of the vertices whose score is below that without recovery.
abbrev pub WeakerSet : List SecurityScore → List SecurityScore → ℕ → Type 0
WeakerSet scores without r = TakenBelow (λ v. security_at scores v < security_at without v) 64 r

-- r is the set of the vertices whose risk is at most that without recovery.
abbrev pub IdleSet : List RecoverabilityScore → List RecoverabilityScore → ℕ → Type 0
IdleSet risks without r = TakenBelow (λ v. recoverability_at risks v ≤ recoverability_at without v) 64 r

-- w is one of the accounts, the rank of w is below that of v, and the score of w is not below that of v.
pub record OutOfRank (accounts : ℕ) (s : Setup) (scores : List SecurityScore) (v w : ℕ) : Type 0 where
  pub account : Member accounts w
  pub rank : (vertex_at s w).rank < (vertex_at s v).rank
  pub score : security_at scores v ≤ security_at scores w

-- r is the set of the accounts that are out of rank with v above.
abbrev pub BelowOne : ℕ → Setup → List SecurityScore → ℕ → ℕ → Type 0
BelowOne accounts s scores v r = TakenBelow (OutOfRank accounts s scores v) 64 r

-- r has for each vertex v the set of the accounts that are out of rank with v above.
pub record BelowAll (accounts : ℕ) (s : Setup) (scores : List SecurityScore) (r : List ℕ) : Type 0 where
  pub each : (v : ℕ) → v < 64 → BelowOne accounts s scores v (get_or r v 0)
