use Rattle.std.proofs.Common.{ap, ◌∙◌}
use Rattle.successors.specs.declared.Vertices.{Vertices}
use Rattle.successors.proofs.Needs.{gathering-none, gathering-more, gathering-done}
use Rattle.successors.proofs.of_set.Goals as goal

pub loop-f-init : goal.loop-f-init
loop-f-init c =
    let begun = ap (λ (i : Vertices). i.left) c.into_iter-f-iterator.ensures.into_iter_gives ∙ c.vertices_of-f-items.ensures in
    rw begun (gathering-none _ _)

pub loop-f-preserved : goal.loop-f-preserved
loop-f-preserved c =
    let taken = c.in-Some.ensures.steps in
    gathering-more _ _ _ _ _ _ c.loop-f.invariant taken.0.vertex.member taken.1

pub returns : goal.returns
returns c = gathering-done _ _ _ _ c.in-None.ensures.steps c.loop-f.invariant
