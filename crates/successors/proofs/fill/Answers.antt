use Rattle.std.proofs.Common.{rules}
use Rattle.successors.proofs.Needs.{filling-none, filling-more, filling-done}
use Rattle.successors.proofs.fill.Goals as goal

pub loop-v-init : goal.loop-v-init
loop-v-init c = filling-none _ _ c.requires

pub loop-v-preserved : goal.loop-v-preserved
loop-v-preserved c =
    filling-more _ _ _ _ _ c.loop-v-test.true c.loop-v.invariant c.needed.ensures c.note.ensures

pub returns : goal.returns
returns c = filling-done c.args.graph _ _ (search rules) c.loop-v-test.false c.loop-v.invariant
