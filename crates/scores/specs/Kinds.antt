-- The two kinds of score.
use Rattle.scores.specs.declared.Score.{Score}
use Rattle.scores.specs.declared.Security.{Security}
use Rattle.scores.specs.declared.Recoverability.{Recoverability}

-- Document 003's security score.
abbrev pub SecurityScore : Type 0
SecurityScore = Score Security

-- Document 003's recoverability score.
abbrev pub RecoverabilityScore : Type 0
RecoverabilityScore = Score Recoverability
