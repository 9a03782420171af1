use Rattle.attackers.proofs.Loops.{Holding}
use Rattle.attackers.proofs.held_by.Given as goal

-- held has the vertices of at most the kind t that are not left.
abbrev pub invariant-loop-v : goal.invariant-loop-v
invariant-loop-v l = Holding l.kinds l.fn.initial.0 l.t l.v-iterator.left l.held.0
