use Rattle.std.proofs.Common.{arith, rules, ◌≡◌, below_none}
use Rattle.setup.proofs.Recovery.{places-more, places-all}
use Rattle.setup.proofs.without_recovery.Goals as goal

pub loop-v-init : goal.loop-v-init
loop-v-init c = record { long = search rules; each = below_none _ }

pub loop-v-preserved : goal.loop-v-preserved
loop-v-preserved c = places-more _ _ c.loop-v.r c.loop-v.v c.rows_less.result c.loop-v-test.true c.loop-v.invariant c.rows_less.ensures

pub returns : goal.returns
returns c =
    let e : c.loop-v.v ≡ 64 = omega arith in
    places-all c.args.s c.loop-v.r (search rules) (rw e at c.loop-v.invariant)
