use Rattle.std.proofs.Common.{ap, ◌∙◌}
use Rattle.successors.specs.declared.Vertices.{Vertices}
use Rattle.closures.proofs.Passes.{admitting-none, admitting-skip, admitting-take, admitting-done}
use Rattle.closures.proofs.admitted.Goals as goal

pub loop-v-init : goal.loop-v-init
loop-v-init c =
    let begun = ap (λ (i : Vertices). i.left) c.into_iter-v-iterator.ensures.into_iter_gives ∙ c.vertices_of-v-items.ensures in
    rw begun (admitting-none _ _ _ _)

pub loop-v-preserved-then-admits : goal.loop-v-preserved-then-admits
loop-v-preserved-then-admits c =
    let taken = c.in-Some.ensures.steps in
    admitting-take _ _ _ _ _ _ _ _ c.loop-v.invariant taken.0.vertex.member taken.1 _ taken.0.vertex.place (c.admits.ensures.yes c.if-admits.true) c.insert-r.ensures

pub loop-v-preserved : goal.loop-v-preserved
loop-v-preserved c =
    let taken = c.in-Some.ensures.steps in
    admitting-skip _ _ _ _ _ _ _ _ c.loop-v.invariant taken.0.vertex.member taken.1 (c.admits.ensures.no c.if-admits.false)

pub returns : goal.returns
returns c = admitting-done _ _ _ _ _ _ c.in-None.ensures.steps c.loop-v.invariant
