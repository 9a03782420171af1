use Rattle.std.proofs.Common.{rules, ap, ◌∙◌}
use Rattle.successors.specs.declared.Vertices.{Vertices}
use Rattle.successors.proofs.Needs.{noting-none, noting-more, noting-done}
use Rattle.successors.proofs.note.Goals as goal

pub loop-f-init : goal.loop-f-init
loop-f-init c =
    let begun = ap (λ (i : Vertices). i.left) c.into_iter-f-iterator.ensures.into_iter_gives ∙ c.vertices_of-f-items.ensures in
    rw begun (noting-none _ _ _ c.requires.out_len)

pub loop-f-preserved : goal.loop-f-preserved
loop-f-preserved c =
    let taken = c.in-Some.ensures.steps in
    let v = taken.0.vertex in
    noting-more _ _ _ _ _ _ _ c.loop-f.invariant v.place c.requires.v_bound v.member taken.1

pub returns : goal.returns
returns c = noting-done _ _ _ _ _ c.in-None.ensures.steps c.loop-f.invariant
