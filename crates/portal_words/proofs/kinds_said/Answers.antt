use borrow.Author.Rules.{rules}
use mathlib.Core.Path.{◌≡◌, refl}
use native.Mathlib.Omega.{arith}
use lib.ListN.{length}
use Rattle.vertex_set.proofs.Decisions.{decide-yes, decide-no}
use Rattle.portal_words.proofs.Strict.{kinds-none, kinds-more, says-no, says-yes}
use Rattle.portal_words.proofs.kinds_said.Goals as goal

pub loop-v-init : goal.loop-v-init
loop-v-init c = (search rules, kinds-none _)

pub returns-then-words-v-gt1 : goal.returns-then-words-v-gt1
returns-then-words-v-gt1 c = decide-no (says-no _ c.loop-v.v (omega arith) c.if-words-v-gt1.true)

pub loop-v-preserved : goal.loop-v-preserved
loop-v-preserved c = (omega arith, kinds-more _ c.loop-v.v _ refl (omega arith) c.loop-v.invariant.1)

pub returns : goal.returns
returns c =
    let e : c.loop-v.v ≡ 64 = omega arith in
    let long : length c.args.words.now ≡ 1283 = search rules in
    decide-yes (says-yes _ (omega arith) (rw e at c.loop-v.invariant.1))
