use Rattle.std.proofs.Common.{arith}
use Rattle.pool_colours.proofs.Renaming.{below_none, below_more, lowest-found, lowest-none}
use Rattle.pool_colours.proofs.lowest_free.Goals as goal

pub loop-k-init : goal.loop-k-init
loop-k-init c = below_none _

pub returns-then-not-has : goal.returns-then-not-has
returns-then-not-has c = lowest-found _ _ c.loop-k-test.true c.loop-k.invariant (c.has.ensures.no c.if-not-has.true)

pub loop-k-preserved : goal.loop-k-preserved
loop-k-preserved c = below_more _ _ c.loop-k.invariant (c.has.ensures.yes c.if-not-has.false)

pub returns : goal.returns
returns c = lowest-none _ _ (omega arith) c.loop-k.invariant
