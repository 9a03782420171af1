-- The invariant: the successors before v of each vertex are written.
use Rattle.successors.proofs.Needs.{Filling}
use Rattle.successors.proofs.fill.Given as goal

abbrev pub invariant-loop-v : goal.invariant-loop-v
invariant-loop-v l = Filling l.fn.graph l.out l.v
