-- `tables::take_block` meets its contract. The invariant: the words of the vertices before v are taken.
-- Assumes nothing.
use Rattle.tables.proofs.Blocks.{TakenBelow}
use Rattle.tables.proofs.take_block.Given as goal

abbrev pub invariant-loop-v : goal.invariant-loop-v
invariant-loop-v l = TakenBelow l.w l.b l.v l.x
