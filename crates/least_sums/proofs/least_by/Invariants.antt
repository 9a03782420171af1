-- `least_sums::least_by` meets its contract. The loop's invariant: the least so far, with the words still to come, is the least of all.
-- Assumes nothing.
use Rattle.family_lists.specs.Inner.Tables.{sum_by}
use Rattle.least_sums.proofs.Least.{Remaining}
use Rattle.least_sums.proofs.least_by.Given as goal

abbrev pub invariant-loop-b : goal.invariant-loop-b
invariant-loop-b l = Remaining (sum_by l.sums.low l.sums.high) l.f l.least l.b
