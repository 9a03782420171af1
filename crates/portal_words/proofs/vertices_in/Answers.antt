use borrow.Author.Rules.{rules}
use mathlib.Core.Path.{◌≡◌, refl}
use native.Mathlib.Omega.{arith}
use Rattle.portal_words.proofs.Filling.{filled_none, filled_more, filled-all}
use Rattle.portal_words.proofs.vertices_in.Goals as goal

pub loop-v-init : goal.loop-v-init
loop-v-init c = (search rules, filled_none _ 64 _ refl)

pub loop-v-preserved : goal.loop-v-preserved
loop-v-preserved c =
    (omega arith, filled_more _ 64 c.loop-v.r c.loop-v.v _ (omega arith) c.vertex_in.ensures c.loop-v.invariant.1)

pub returns : goal.returns
returns c =
    let e : c.loop-v.v ≡ 64 = omega arith in
    filled-all _ 64 c.loop-v.r (rw e at c.loop-v.invariant.1)
