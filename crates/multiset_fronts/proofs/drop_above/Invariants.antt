use Rattle.multiset_fronts.specs.Inner.{firsts, seconds}
use Rattle.multiset_fronts.proofs.Dropping.{Dropping}
use Rattle.multiset_fronts.proofs.drop_above.Given as goal

-- Of the first i sets those that stay stand at the first `left` places, and the places from i on are as they were.
abbrev pub invariant-loop-i : goal.invariant-loop-i
invariant-loop-i l =
    Dropping l.initial.kept (firsts l.initial.keys) (seconds l.initial.keys) l.n l.new.first l.new.second l.kept (firsts l.keys) (seconds l.keys) l.i l.left
