-- `bases::family_by_block` meets its contract. The invariant: the words before b are those of the target in the block, over and over.
-- Assumes nothing.
use Prim.Native.Nat.{◌+◌, ◌%◌}
use lib.ListN.{get_or}
use Rattle.bases.proofs.Readers.{FilledBelow}
use Rattle.bases.proofs.family_by_block.Given as goal

abbrev pub invariant-loop-b : goal.invariant-loop-b
invariant-loop-b l = FilledBelow (λ k. get_or l.x (l.from + k % 16) 0) 256 l.b l.out
