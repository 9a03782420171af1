-- The invariant: v is a successor of the needed vertices that are not left.
use Rattle.successors.proofs.Needs.{Noting}
use Rattle.successors.proofs.note.Given as goal

abbrev pub invariant-loop-f : goal.invariant-loop-f
invariant-loop-f l = Noting l.needed l.v l.initial.out l.out l.f-iterator.left
