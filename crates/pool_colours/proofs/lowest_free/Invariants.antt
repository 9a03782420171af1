use Rattle.pool_colours.proofs.Renaming.{MembersBelow}
use Rattle.pool_colours.proofs.lowest_free.Given as goal

-- Every number below k is taken.
abbrev pub invariant-loop-k : goal.invariant-loop-k
invariant-loop-k l = MembersBelow l.taken.0 l.k
