-- `lanes::scan` meets its contract. The invariant: part is the family where all vertices passed are held or, with any, some are.
-- Assumes nothing.
use Rattle.lanes.proofs.Scans.{Scan}
use Rattle.lanes.proofs.scan.Given as goal

abbrev pub invariant-loop-v : goal.invariant-loop-v
invariant-loop-v l = Scan l.any l.w l.row l.v-iterator.left l.part
