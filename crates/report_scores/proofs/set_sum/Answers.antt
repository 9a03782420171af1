use Rattle.families.proofs.Turns.{turn}
use Rattle.report_scores.proofs.Sums.{summing-fits, summing-more, summing-end}
use Rattle.report_scores.proofs.set_sum.Goals as goal

pub overflow_add-sum : goal.overflow_add-sum
overflow_add-sum c =
    let taken = c.in-Some.ensures.steps in
    let t = turn _ _ _ c.loop-v.invariant.small taken.0 taken.1 in
    record { fits = rw t.vertex (summing-fits _ c.args.x _ c.loop-v.sum t.some c.loop-v.invariant c.requires.small) }

pub loop-v-preserved : goal.loop-v-preserved
loop-v-preserved c =
    let taken = c.in-Some.ensures.steps in
    let t = turn _ _ _ c.loop-v.invariant.small taken.0 taken.1 in
    rw (t.vertex, t.rest) (summing-more _ c.args.x _ c.loop-v.sum t.some c.loop-v.invariant)

pub returns : goal.returns
returns c = summing-end _ c.args.x _ c.loop-v.sum c.in-None.ensures.steps c.loop-v.invariant
