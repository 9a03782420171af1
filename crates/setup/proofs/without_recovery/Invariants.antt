use Rattle.setup.proofs.Recovery.{LessPlaces}
use Rattle.setup.proofs.without_recovery.Given as goal

-- In r each vertex before v has its rows without recovery.
abbrev pub invariant-loop-v : goal.invariant-loop-v
invariant-loop-v l = LessPlaces l.fn.s.graph l.fn.s.recovery l.r l.v
