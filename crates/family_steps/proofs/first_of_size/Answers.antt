use native.Mathlib.Omega.{arith}
use Rattle.family_steps.proofs.Steps.{none_more, first-here}
use Rattle.family_steps.proofs.first_of_size.Goals as goal

pub returns-then-lanes-ne0 : goal.returns-then-lanes-ne0
returns-then-lanes-ne0 c =
    first-here _ _ _ c.loop-b.b _ _ c.lanes_of_size-sized.ensures c.lanes_from-later.ensures (omega arith) _ c.lowest.ensures
    c.loop-b.invariant

pub loop-b-preserved : goal.loop-b-preserved
loop-b-preserved c =
    none_more _ _ _ c.loop-b.b _ _ c.lanes_of_size-sized.ensures c.lanes_from-later.ensures c.if-lanes-ne0.false c.loop-b.invariant
