use native.Mathlib.Omega.{arith}
use Rattle.family_lists.specs.Inner.Tables.{sum_by}
use Rattle.family_lists.proofs.Lists.{size_room, size-next}
use Rattle.family_lists.proofs.put_size.Goals as goal

pub put_sized-next-requires-clause-x_in_bounds : goal.put_sized-next-requires-clause-x_in_bounds
put_sized-next-requires-clause-x_in_bounds c =
    size_room (sum_by c.args.sums.now.low c.args.sums.now.high) c.args.s c.args.f.now c.args.occupied.now c.requires.words c.args.out.now
    c.args.at c.loop-b.out c.loop-b.next c.loop-b.b-index c.loop-b.invariant (omega arith) c.requires.f_in_bounds

pub loop-b-preserved : goal.loop-b-preserved
loop-b-preserved c =
    size-next (sum_by c.args.sums.now.low c.args.sums.now.high) c.args.s c.args.f.now c.args.occupied.now c.requires.words c.args.out.now
    c.args.at c.loop-b.out c.loop-b.next c.loop-b.b-index c.loop-b.invariant (omega arith) _ _ c.put_sized-next.ensures
