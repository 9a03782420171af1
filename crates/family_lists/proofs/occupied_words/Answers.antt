use native.Mathlib.Omega.{arith}
use borrow.Author.Rules.{rules}
use Rattle.family_lists.proofs.Lists.{indexing-more, indexing-same}
use Rattle.family_lists.proofs.occupied_words.Goals as goal
use Rattle.family_lists.proofs.occupied_words.Goals.{else-x-ne0, then-x-ne0}

pub loop-b-preserved : goal.loop-b-preserved
loop-b-preserved c =
    let f = c.args.f.now in
    let p = c.loop-b.invariant in
    elim c.if-x-ne0.branch [
      | then-x-ne0 w ↦ rw w.n-is (indexing-more f c.loop-b.index c.loop-b.n c.loop-b.b p (search rules) (omega arith))
      | else-x-ne0 w ↦ rw w.n-is (indexing-same f c.loop-b.index c.loop-b.n c.loop-b.b p (search rules) (omega arith) w.if-x-ne0.false)
    ]
