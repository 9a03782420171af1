use native.Mathlib.Omega.{arith}
use borrow.Author.Rules.{rules}
use Rattle.multisets.proofs.Counts.{counting_more, counting-same, counting-end}
use Rattle.multisets.proofs.count_at_least.Goals as goal
use Rattle.multisets.proofs.count_at_least.Goals.{else-t-x, then-t-x}

pub loop-x-init : goal.loop-x-init
loop-x-init c = (search rules, search rules, omega arith)

pub loop-x-preserved : goal.loop-x-preserved
loop-x-preserved c =
    let a = c.args in
    let t = c.loop-x-test.true in (
      omega arith,
      elim c.if-t-x.branch [ then-t-x w ↦ rw w.n-is (omega arith) | else-t-x w ↦ rw w.n-is (omega arith) ],
      elim c.if-t-x.branch [ then-t-x w ↦ rw w.n-is (counting_more a.list.now a.t c.loop-x.x-index c.loop-x.n t c.loop-x.invariant.2 w.if-t-x.true) | else-t-x w ↦ rw w.n-is (counting-same a.list.now a.t c.loop-x.x-index c.loop-x.n t c.loop-x.invariant.2 w.if-t-x.false) ],
    )

pub returns : goal.returns
returns c = counting-end c.args.list.now c.args.t c.loop-x.x-index c.loop-x.n (omega arith) c.loop-x.invariant.2
