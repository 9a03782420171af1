use Rattle.setup.proofs.Recovery.{LessBelow}
use Rattle.setup.proofs.rows_less.Given as goal

-- r has eight rows, and each of those before c is the row without recovery.
abbrev pub invariant-loop-c : goal.invariant-loop-c
invariant-loop-c l = LessBelow l.fn.rows l.fn.recovery l.r l.c
