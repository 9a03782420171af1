use Rattle.std.proofs.Common.{◌<◌, ◌^◌}
use Rattle.vertex_set.specs.Set.{count_outside}
use Rattle.successors.specs.Inner.{Successors}
use Rattle.closures.proofs.Passes.{Passing}
use Rattle.closures.proofs.closure.Given as goal

-- `passes` passes have led from s to `held`; what `held` admits and has not is left to be looked at.
abbrev pub invariant-loop-graph : goal.invariant-loop-graph
invariant-loop-graph l = record { list : Successors l.graph l.list; small : l.held.0 < 2 ^ 64; passing : Passing l.loss l.graph l.initial.held.0 l.held.0 l.left l.passes }

abbrev pub decreases-loop-graph : goal.decreases-loop-graph
decreases-loop-graph l = count_outside 64 l.held.0
