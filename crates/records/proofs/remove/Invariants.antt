use Rattle.records.proofs.Laws.{Removing}
use Rattle.records.proofs.remove.Given as goal

-- The records of the student among the first i are removed.
abbrev pub invariant-loop-i : goal.invariant-loop-i
invariant-loop-i l = Removing l.student l.initial.records l.i l.kept l.records
