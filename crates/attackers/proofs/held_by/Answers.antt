use Rattle.std.proofs.Common.{ℕ, sym, subst, ap, ◌∙◌}
use Rattle.successors.specs.declared.Vertices.{Vertices}
use Rattle.attackers.specs.Inner.{BothAtMost}
use Rattle.attackers.proofs.Loops.{holding-none, holding-more, holding-same, holding-done}
use Rattle.attackers.proofs.held_by.Goals as goal

pub loop-v-init : goal.loop-v-init
loop-v-init c =
    let begun = ap (λ (i : Vertices). i.left) c.into_iter-v-iterator.ensures.into_iter_gives ∙ c.vertices_of-v-items.ensures in
    rw begun (holding-none _ _ _)

pub loop-v-preserved-then-at_most : goal.loop-v-preserved-then-at_most
loop-v-preserved-then-at_most c =
    let t = c.in-Some.ensures.steps in
    holding-more _ _ _ _ _ _ _ c.loop-v.invariant t.0.vertex t.1 _
    (subst (λ (k : ℕ). BothAtMost k c.args.t) c.entry_of.ensures (c.at_most.ensures.yes c.if-at_most.true)) c.insert-held.ensures

pub loop-v-preserved : goal.loop-v-preserved
loop-v-preserved c =
    let t = c.in-Some.ensures.steps in
    holding-same _ _ _ _ _ _ _ c.loop-v.invariant t.0.vertex t.1
    (λ h. c.at_most.ensures.no c.if-at_most.false (subst (λ (k : ℕ). BothAtMost k c.args.t) (sym c.entry_of.ensures) h))

pub returns : goal.returns
returns c = holding-done _ _ _ _ _ c.in-None.ensures.steps c.loop-v.invariant
