use mathlib.Core.Path.{◌≡◌}
use lib.Bits.{or_lt}
use lib.ListN.{length}
use Rattle.tables.proofs.Settling.{settling-more, settled, falls-more}
use Rattle.tables.proofs.settle.Goals as goal

pub loop-todo-smaller-then-step : goal.loop-todo-smaller-then-step
loop-todo-smaller-then-step c =
    falls-more _ _ _ _ (c.step.ensures.more c.if-step.true) (or_lt 64 _ _ c.without-todo.type_inv c.users-todo.type_inv)

pub loop-todo-preserved-then-step : goal.loop-todo-preserved-then-step
loop-todo-preserved-then-step c =
    settling-more _ _ _ _ _ _ _ _ _ _ c.loop-todo.invariant c.without-todo.ensures c.next-v.ensures.place c.step.ensures _ c.users-todo.ensures

pub returns : goal.returns
returns c =
    let long : length c.args.graph.rows ≡ 64 = c.well_formed.0.1.1.0.1.0.1 in
    settled _ c.args.graph _ _ _ _ long c.loop-todo-test.false c.loop-todo.invariant
