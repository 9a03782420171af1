use native.Mathlib.Omega.{arith}
use borrow.Author.Rules.{rules}
use Rattle.family_lists.specs.Inner.Tables.{sum_by}
use Rattle.family_lists.proofs.Order.{Words}
use Rattle.family_lists.proofs.SetLists.{all_room, all-next}
use Rattle.family_lists.proofs.Sizes.{wrote-no-size}
use Rattle.family_lists.proofs.put_all.Goals as goal
use Rattle.family_lists.proofs.put_all.Goals.{else-some, then-some}

pub put_size-next-requires-clause-f_in_bounds : goal.put_size-next-requires-clause-f_in_bounds
put_size-next-requires-clause-f_in_bounds c =
    let words : Words c.args.f.now = λ i. search rules in
    all_room (sum_by c.args.sums.now.low c.args.sums.now.high) c.args.f.now c.args.out.now c.loop-s.out c.loop-s.next c.loop-s.s
    c.loop-s.invariant.1 c.loop-s-test.true (search rules) words c.requires

pub loop-s-preserved : goal.loop-s-preserved
loop-s-preserved c =
    let s = c in
    let N = sum_by s.args.sums.now.low s.args.sums.now.high in (
      omega (arith, c.loop-s-test.true),
      all-next N s.args.f.now s.args.out.now c.loop-s.out c.loop-s.next c.loop-s.s c.loop-s.invariant.1 c.loop-s-test.true _ _
          (elim c.if-some.branch [
            | then-some w ↦ rw (w.out-is, w.next-is) w.put_size-next.ensures
            | else-some w ↦ rw (w.out-is, w.next-is)
                (wrote-no-size N s.args.f.now _ c.loop-s.out c.loop-s.next c.loop-s.s _ (search rules) c.joined_words-joined.ensures
                c.some_of_size-some.ensures w.if-some.false)
          ]),
    )
