use native.Mathlib.Omega.{arith}
use borrow.Author.Rules.{rules}
use Rattle.multiset_fronts.proofs.Pairs.{pairs-taken_same, pairs-taken}
use Rattle.multiset_fronts.proofs.take_in.Goals as goal

pub returns-then-some_below : goal.returns-then-some_below
returns-then-some_below c =
    pairs-taken_same c.args.kept.now c.args.keys.now c.args.n c.args.x c.args.new (omega arith) (omega arith) (c.some_below.ensures.yes c.if-some_below.true)

pub returns : goal.returns
returns c =
    pairs-taken c.args.kept.now c.args.keys.now c.args.n c.args.x c.args.new (omega arith) (omega arith) (c.some_below.ensures.no c.if-some_below.false)
    _ _ c.drop_above-left.result c.drop_above-left.ensures (search rules) (search rules)
