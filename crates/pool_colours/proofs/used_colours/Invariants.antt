use Rattle.pool_colours.proofs.Renaming.{UsedBelow}
use Rattle.pool_colours.proofs.used_colours.Given as goal

-- The colours below c whose rows are not empty are in the set.
abbrev pub invariant-loop-c : goal.invariant-loop-c
invariant-loop-c l = UsedBelow l.rows l.c l.r.0
