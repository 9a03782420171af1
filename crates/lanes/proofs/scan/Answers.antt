use mathlib.Core.Path.{◌≡◌, ap, ◌∙◌}
use Prim.Native.Nat.{◌*◌, ◌≤◌}
use native.Mathlib.Omega.{arith}
use lib.ListN.{length, drop, length-drop}
use lib.Seq.{length-take-le}
use borrow.Author.Rules.{rules}
use Rattle.successors.specs.declared.Vertices.{Vertices}
use Rattle.lanes.proofs.Scans.{scan-first, scan-more, scan-done}
use Rattle.lanes.proofs.scan.Goals as goal

pub loop-v-init : goal.loop-v-init
loop-v-init c =
    let begun = ap (λ (i : Vertices). i.left) c.into_iter-v-iterator.ensures.into_iter_gives ∙ c.vertices_of-v-items.ensures in
    let v = c.lowest-first.result in
    let d = length-drop (v * 16) c.args.w.now in
    let w : length c.args.w.now ≡ 1024 = search rules in
    let room : 16 ≤ length (drop (v * 16) c.args.w.now) = omega (arith, d, w, c.lowest-first.ensures.vertex.place) in
    let long : length c.part_of.result.now ≡ 16 = rw c.part_of.ensures (length-take-le _ _ room) in
    rw begun (scan-first _ _ _ _ _ _ c.lowest-first.ensures.vertex.member c.without.ensures long c.part_of.ensures)

pub loop-v-preserved : goal.loop-v-preserved
loop-v-preserved c =
    let taken = c.in-Some.ensures.steps in
    scan-more _ _ _ _ _ _ _ _ _ taken.0.vertex.member taken.1 c.part_of-in-loop-v.ensures c.loop-v.invariant c.merge_in.ensures

pub returns : goal.returns
returns c = scan-done _ _ _ _ _ c.in-None.ensures.steps c.loop-v.invariant
