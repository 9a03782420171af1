use Rattle.pool_colours.proofs.Renaming.{NewUpTo}
use Rattle.pool_colours.proofs.new_colour.Given as goal

-- `taken` has the colours that are taken before the colour b of the second sheet is renamed, or the one that is asked for.
abbrev pub invariant-loop-b : goal.invariant-loop-b
invariant-loop-b l = NewUpTo l.initial.taken.0 l.second l.colour l.b l.taken.0
