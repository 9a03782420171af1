use Rattle.closures.proofs.Passes.{Admitting}
use Rattle.closures.proofs.admitted.Given as goal

-- Of the vertices to look at, r has those that `held` admits and that are no longer to come.
abbrev pub invariant-loop-v : goal.invariant-loop-v
invariant-loop-v l = Admitting l.loss l.graph l.held.0 l.fn.left l.v-iterator.left l.r.0
