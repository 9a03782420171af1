use Rattle.multiset_fronts.proofs.Pairs.{NoneTo}
use Rattle.multiset_fronts.proofs.some_below.Given as goal

-- None of the pairs before the next is at most the new one.
abbrev pub invariant-loop-keys : goal.invariant-loop-keys
invariant-loop-keys l = NoneTo l.kept l.new.first l.new.second l.keys-index
