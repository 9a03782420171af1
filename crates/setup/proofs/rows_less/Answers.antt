use Rattle.std.proofs.Common.{arith, rules, ◌≡◌, below_none}
use Rattle.setup.proofs.Recovery.{less-more, less-all}
use Rattle.setup.proofs.rows_less.Goals as goal

pub loop-c-init : goal.loop-c-init
loop-c-init c = record { long = search rules; each = below_none _ }

pub loop-c-preserved : goal.loop-c-preserved
loop-c-preserved c = rw c.row_less.ensures (less-more _ _ c.loop-c.r c.loop-c.c c.loop-c-test.true c.loop-c.invariant)

pub returns : goal.returns
returns c =
    let a = c.args in
    let e : c.loop-c.c ≡ 8 = omega arith in
    less-all a.rows a.recovery c.loop-c.r (search rules) (rw e at c.loop-c.invariant)
