use borrow.Author.Rules.{rules}
use Rattle.families.proofs.Turns.{turn}
use Rattle.family_steps.proofs.Spreading.{spreading-fits, spreading-more, spreading-end}
use Rattle.family_steps.proofs.set_of.Goals as goal

pub overflow_add-set : goal.overflow_add-set
overflow_add-set c =
    let taken = c.in-Some.ensures.steps in
    let t = turn _ _ _ c.loop-v.invariant.small taken.0 taken.1 in
    record {
      fits = rw t.vertex (spreading-fits c.args.chosen.0 c.args.mask _ c.loop-v.bits c.loop-v.set c.loop-v.invariant t.some (search rules));
    }

pub loop-v-preserved : goal.loop-v-preserved
loop-v-preserved c =
    let taken = c.in-Some.ensures.steps in
    let t = turn _ _ _ c.loop-v.invariant.small taken.0 taken.1 in
    rw (t.vertex, t.rest) (spreading-more c.args.chosen.0 c.args.mask _ c.loop-v.bits c.loop-v.set c.loop-v.invariant t.some)

pub returns : goal.returns
returns c =
    spreading-end c.args.chosen.0 c.args.mask _ c.loop-v.bits c.loop-v.set (search rules) c.in-None.ensures.steps c.loop-v.invariant
