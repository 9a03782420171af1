-- The invariant: r has the successors of the set's vertices that are not left.
use Rattle.successors.proofs.Needs.{Gathering}
use Rattle.successors.proofs.of_set.Given as goal

abbrev pub invariant-loop-f : goal.invariant-loop-f
invariant-loop-f l = Gathering l.list l.fn.set l.f-iterator.left l.r
