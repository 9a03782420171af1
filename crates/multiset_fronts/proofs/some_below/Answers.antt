use native.Mathlib.Omega.{arith}
use borrow.Author.Rules.{rules}
use Rattle.vertex_set.proofs.Decisions.{decide-yes, decide-no}
use Rattle.multiset_fronts.proofs.Pairs.{none-begun, none-next, some-here, none-all}
use Rattle.multiset_fronts.proofs.some_below.Goals as goal

pub loop-keys-init : goal.loop-keys-init
loop-keys-init c = none-begun _ _ _

pub returns-then-at_most : goal.returns-then-at_most
returns-then-at_most c = decide-yes (some-here c.args.kept.now c.args.new.first c.args.new.second c.loop-keys.keys-index c.keys-item.result c.loop-keys-test.true (search rules) _ c.at_most.ensures c.if-at_most.true)

pub loop-keys-preserved : goal.loop-keys-preserved
loop-keys-preserved c = none-next c.args.kept.now c.args.new.first c.args.new.second c.loop-keys.keys-index c.keys-item.result c.loop-keys-test.true (search rules) _ c.at_most.ensures c.loop-keys.invariant c.if-at_most.false

pub returns : goal.returns
returns c = decide-no (none-all _ _ _ _ (omega arith) c.loop-keys.invariant)
