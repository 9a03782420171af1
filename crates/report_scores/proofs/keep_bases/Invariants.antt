-- `report_scores::keep_bases` meets its contract. The loop's invariant: the vertices passed have their minimal members, the others their families.
-- Assumes nothing.
use Rattle.report_scores.proofs.Reading.{KeptBelow}
use Rattle.report_scores.proofs.keep_bases.Given as goal

abbrev pub invariant-loop-v : goal.invariant-loop-v
invariant-loop-v l = KeptBelow l.initial.w l.sums.low l.sums.high l.v l.w l.out
