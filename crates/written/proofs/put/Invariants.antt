-- `written::put` meets its contract. The loop's invariant: the first i items stand from `at` on, and every other place is as it was.
-- Assumes nothing.
use Rattle.written.proofs.Copying.{Copying}
use Rattle.written.proofs.put.Given as goal

abbrev pub invariant-loop-i : goal.invariant-loop-i
invariant-loop-i g l = Copying l.items l.initial.out l.at l.out l.i
