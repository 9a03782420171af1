use Rattle.attackers.proofs.Loops.{Fitting}
use Rattle.attackers.proofs.entries_fit.Given as goal

-- The entries of the vertices that are no longer left are kinds.
abbrev pub invariant-loop-v : goal.invariant-loop-v
invariant-loop-v l = Fitting l.kinds l.fn.initial.0 l.v-iterator.left
