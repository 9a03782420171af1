-- `family_lists::some_of_size` meets its contract. The loop's invariant: no lane that was joined below k belongs to a mask of s bits.
-- Assumes nothing.
use Rattle.family_lists.proofs.Sizes.{NoneBelow}
use Rattle.family_lists.proofs.some_of_size.Given as goal

abbrev pub invariant-loop-k : goal.invariant-loop-k
invariant-loop-k l = NoneBelow l.joined l.s l.k
