use borrow.Author.Rules.{rules}
use Prim.Native.Nat.{◌+◌}
use mathlib.Core.Path.{◌≡◌}
use native.Mathlib.Omega.{arith}
use lib.ListN.{length}
use Rattle.portal_words.specs.Words.{vertex_words}
use Rattle.portal_words.proofs.Writing.{put-none, put-more, put_all}
use Rattle.portal_words.proofs.put_vertices.Goals as goal

pub loop-vertex-init : goal.loop-vertex-init
loop-vertex-init c = (search rules, put-none _ _ _ _)

pub loop-vertex-preserved : goal.loop-vertex-preserved
loop-vertex-preserved c =
    let a = c.args in
    let long : length a.vertices ≡ 64 = search rules in
    let w = c.put_vertex-next.ensures in
    let n : c.put_vertex-next.result ≡ c.loop-vertex.next + 4 = w.next in
    (omega arith, put-more vertex_words a.vertices a.out.now a.at c.loop-vertex.out c.loop-vertex.next c.loop-vertex.vertex-index _ _ _ (omega arith) c.loop-vertex.invariant.1 w)

pub returns : goal.returns
returns c =
    let a = c.args in
    let long : length a.vertices ≡ 64 = search rules in
    put_all vertex_words a.vertices a.out.now a.at c.loop-vertex.out c.loop-vertex.next c.loop-vertex.vertex-index 256 (omega arith) (omega arith) c.loop-vertex.invariant.1
