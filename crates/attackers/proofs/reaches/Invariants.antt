use Prim.Native.Nat.{◌+◌, ◌*◌, ◌^◌}
use Rattle.vertex_set.specs.Set.{count_outside}
use Rattle.successors.specs.Inner.{Successors}
use Rattle.attackers.proofs.Reaching.{Reaching}
use Rattle.attackers.proofs.reaches.Given as goal

-- All of held can be opened, and what held opens besides is left to be looked at.
abbrev pub invariant-loop-graph : goal.invariant-loop-graph
invariant-loop-graph l = Successors l.graph l.list × Reaching l.graph l.initial.held.0 l.held.0 l.left

abbrev pub decreases-loop-graph : goal.decreases-loop-graph
decreases-loop-graph l = count_outside 64 l.held.0 * 2 ^ 64 + l.left
