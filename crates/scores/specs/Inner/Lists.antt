-- Inner: lists of scores, by vertex number.
use Rattle.std.specs.Prelude.{List, ℕ, get_or}
use Rattle.scores.specs.Kinds.{SecurityScore, RecoverabilityScore}

-- The number at place v of a list of security scores.
abbrev pub security_at : List SecurityScore → ℕ → ℕ
security_at l v = (get_or l v (record { 0 = 0; 1 = record {} })).0

-- The number at place v of a list of recoverability scores.
abbrev pub recoverability_at : List RecoverabilityScore → ℕ → ℕ
recoverability_at l v = (get_or l v (record { 0 = 0; 1 = record {} })).0
