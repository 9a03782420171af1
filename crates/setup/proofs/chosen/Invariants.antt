use Rattle.setup.proofs.Counts.{ChosenBelow}
use Rattle.setup.proofs.chosen.Given as goal

-- r is the set of the initial or, with loss, losable vertices before v, and its size is the number of values before v.
abbrev pub invariant-loop-v : goal.invariant-loop-v
invariant-loop-v l = ChosenBelow l.loss l.fn.s l.v l.r.0
