use Rattle.bases.specs.Score.{points_at}
use Rattle.bases.proofs.Readers.{FilledBelow}
use Rattle.bases.proofs.values_of.Given as goal

-- r has 64 places, and those before v have the values of their vertices.
abbrev pub invariant-loop-v : goal.invariant-loop-v
invariant-loop-v l = FilledBelow (points_at l.loss l.fn.s) 64 l.v l.r
