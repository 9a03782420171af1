use native.Mathlib.Omega.{arith}
use borrow.Author.Rules.{rules}
use mathlib.Core.Path.{ap, ◌∙◌}
use Rattle.successors.specs.declared.Vertices.{Vertices}
use Rattle.families.proofs.Masks.{gathering-none, gathering-more, gathering-end}
use Rattle.families.proofs.Turns.{turn}
use Rattle.families.proofs.mask_of.Goals as goal

pub loop-v-init : goal.loop-v-init
loop-v-init c =
    let begun = ap (λ (i : Vertices). i.left) c.into_iter-v-iterator.ensures.into_iter_gives ∙ c.vertices_of-v-items.ensures in
    (search rules, rw begun (gathering-none c.args.chosen.0 c.args.x (search rules)))

pub loop-v-preserved : goal.loop-v-preserved
loop-v-preserved c =
    let g = c.loop-v.invariant.1 in
    let taken = c.in-Some.ensures.steps in
    let t = turn _ _ _ g.small taken.0 taken.1 in (
      omega (arith, t.lowest.count, g.count, c.requires),
      rw (t.vertex, t.rest) (gathering-more c.args.chosen.0 c.args.x _ c.loop-v.mask c.loop-v.n (omega arith) t.some g),
    )

pub returns : goal.returns
returns c =
    gathering-end c.args.chosen.0 c.args.x _ c.loop-v.mask c.loop-v.n (search rules) c.requires c.in-None.ensures.steps
    c.loop-v.invariant.1
