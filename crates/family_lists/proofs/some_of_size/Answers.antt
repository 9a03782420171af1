use native.Mathlib.Omega.{arith}
use borrow.Author.Rules.{rules}
use Rattle.family_lists.proofs.Sizes.{none_more, some-yes, some-no}
use Rattle.family_lists.proofs.some_of_size.Goals as goal

pub returns-then-x-lanes-ne0 : goal.returns-then-x-lanes-ne0
returns-then-x-lanes-ne0 c =
    some-yes _ _ c.loop-k.k _ (search rules) c.layer-lanes.ensures c.if-x-lanes-ne0.true

pub loop-k-preserved : goal.loop-k-preserved
loop-k-preserved c =
    none_more c.args.joined.now _ c.loop-k.k _ c.layer-lanes.ensures c.if-x-lanes-ne0.false c.loop-k.invariant

pub returns : goal.returns
returns c = some-no _ _ (λ j i h. c.loop-k.invariant j i (omega arith))
