use borrow.Author.Rules.{rules}
use mathlib.Core.Path.{ap, ◌∙◌}
use Rattle.families.proofs.Turns.{turn}
use Rattle.family_lists.proofs.Lists.{lane-sums, lane-fits}
use Rattle.least_sums.specs.Inner.Least.{least_of}
use Rattle.least_sums.proofs.Least.{seeking-more, seeking-end}
use Rattle.least_sums.proofs.least_in_word.Goals as goal

pub overflow_add-sum-in-loop-i : goal.overflow_add-sum-in-loop-i
overflow_add-sum-in-loop-i c =
    let vertex = c.in-Some.ensures.steps.0.vertex in
    record { fits = lane-fits c.args.sums.now.low c.args.sums.now.high c.args.b _ c.args.sums.now.fit c.requires vertex.place }

pub loop-i-preserved : goal.loop-i-preserved
loop-i-preserved c =
    let taken = c.in-Some.ensures.steps in
    let t = turn _ _ _ c.loop-i.invariant.small taken.0 taken.1 in
    rw t.rest (seeking-more _ c.args.y c.args.best _ c.loop-i.least _ t.some (rw (← t.vertex) (search (rules, c.min-least.ensures))) c.loop-i.invariant)

pub returns : goal.returns
returns c =
    seeking-end _ c.args.y c.args.best _ c.loop-i.least c.in-None.ensures.steps c.loop-i.invariant
    ∙ ap (least_of c.args.best) (lane-sums c.args.sums.now.low c.args.sums.now.high c.args.b c.args.y)
