-- `tables::put_block` meets its contract. The invariant: the words of the vertices before v are put in.
-- Assumes nothing.
use Rattle.tables.proofs.Blocks.{PutBelow}
use Rattle.tables.proofs.put_block.Given as goal

abbrev pub invariant-loop-v : goal.invariant-loop-v
invariant-loop-v l = PutBelow l.x l.b l.initial.w l.v l.w
