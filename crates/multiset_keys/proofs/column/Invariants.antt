-- `multiset_keys::column` meets its contract. The loop's invariant: the lanes of the thresholds from k on are there.
-- Assumes nothing.
use Rattle.multiset_keys.proofs.Sums.{Pushing}
use Rattle.multiset_keys.proofs.column.Given as goal

abbrev pub invariant-loop-k : goal.invariant-loop-k
invariant-loop-k l = Pushing l.thresholds l.value l.k l.key
