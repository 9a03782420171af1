-- `tables::start` meets its contract. The invariant: the families of the vertices before v are written.
-- Assumes nothing.
use Rattle.tables.proofs.Starts.{StartedBelow}
use Rattle.tables.proofs.start.Given as goal

abbrev pub invariant-loop-v : goal.invariant-loop-v
invariant-loop-v l = StartedBelow l.chosen.0 l.v l.w
