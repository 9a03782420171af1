use native.Mathlib.Omega.{arith}
use borrow.Author.Rules.{rules}
use mathlib.Core.Path.{ap, ◌∙◌}
use Rattle.successors.specs.declared.Vertices.{Vertices}
use Rattle.families.proofs.Turns.{turn}
use Rattle.sums.proofs.Weights.{weighing-none, weighing-more, weighing-end}
use Rattle.sums.proofs.weights_of.Goals as goal

pub loop-v-init : goal.loop-v-init
loop-v-init c =
    let begun = ap (λ (i : Vertices). i.left) c.into_iter-v-iterator.ensures.into_iter_gives ∙ c.vertices_of-v-items.ensures in
    (search rules, rw begun (weighing-none c.args.chosen.0 _ (search rules)))

pub bounds-weights-n : goal.bounds-weights-n
bounds-weights-n c =
    let g = c.loop-v.invariant.1 in
    let taken = c.in-Some.ensures.steps in
    omega (arith, (turn _ _ _ g.small taken.0 taken.1).lowest.count, g.left, c.requires)

pub loop-v-preserved : goal.loop-v-preserved
loop-v-preserved c =
    let g = c.loop-v.invariant.1 in
    let taken = c.in-Some.ensures.steps in
    let t = turn _ _ _ g.small taken.0 taken.1 in (
      omega (arith, t.lowest.count, g.left, c.requires),
      rw (t.vertex, t.rest) (weighing-more c.args.chosen.0 _ _ c.loop-v.n c.loop-v.weights (omega (arith, t.lowest.count, g.left, c.requires)) t.some g),
    )

pub returns : goal.returns
returns c =
    weighing-end c.args.chosen.0 _ _ c.loop-v.n c.loop-v.weights (search rules) c.loop-v.invariant.0 c.in-None.ensures.steps c.loop-v.invariant.1
