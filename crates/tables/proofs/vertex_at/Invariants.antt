-- `tables::vertex_at` meets its contract. The invariant: none of the vertices that have been passed is at bit k.
-- Assumes nothing.
use Rattle.tables.proofs.Blocks.{Seeking}
use Rattle.tables.proofs.vertex_at.Given as goal

abbrev pub invariant-loop-v : goal.invariant-loop-v
invariant-loop-v l = Seeking l.fn.chosen l.k l.v-iterator.left
