use Rattle.std.proofs.Common.{ap, ◌∙◌, arith}
use Rattle.successors.specs.declared.Vertices.{Vertices}
use Rattle.vertex_set.proofs.Decisions.{decide-yes, decide-no}
use Rattle.attackers.proofs.Loops.{fitting-none, fitting-more, fitting-done}
use Rattle.attackers.proofs.entries_fit.Goals as goal

pub loop-v-init : goal.loop-v-init
loop-v-init c =
    let begun = ap (λ (i : Vertices). i.left) c.into_iter-v-iterator.ensures.into_iter_gives ∙ c.vertices_of-v-items.ensures in
    rw begun (fitting-none _ _)

pub returns-then-entry_of-ge-KINDS : goal.returns-then-entry_of-ge-KINDS
returns-then-entry_of-ge-KINDS c =
    let t = c.in-Some.ensures.steps in
    let m = c.loop-v.invariant.0.each _ t.0.vertex.member in
    decide-no (λ f. let l = f.each c.in-Some.v m in let e = c.entry_of.ensures in let k = c.if-entry_of-ge-KINDS.true in omega arith)

pub loop-v-preserved : goal.loop-v-preserved
loop-v-preserved c =
    let t = c.in-Some.ensures.steps in
    let e = c.entry_of.ensures in
    let k = c.if-entry_of-ge-KINDS.false in
    fitting-more _ _ _ _ _ c.loop-v.invariant t.0.vertex t.1 (omega arith)

pub returns : goal.returns
returns c = decide-yes (fitting-done _ _ _ c.in-None.ensures.steps c.loop-v.invariant)
