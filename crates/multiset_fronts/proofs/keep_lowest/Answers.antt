use Prim.Native.Nat.{◌<◌}
use native.Mathlib.Omega.{arith}
use lib.ListN.{get_or}
use borrow.Author.Rules.{rules}
use Rattle.families.specs.Inner.Family.{masks}
use Rattle.multiset_fronts.specs.Inner.{firsts, seconds}
use Rattle.multiset_fronts.proofs.Pairs.{zero-key}
use Rattle.multiset_fronts.proofs.Keeping.{keeping_none, next_small, next_first, next_second, keeping-room, keeping-more, keeping_all}
use Rattle.multiset_fronts.proofs.keep_lowest.Goals as goal

pub invariant_of-none : goal.invariant_of-none
invariant_of-none c = record { is_first = zero-key; is_second = zero-key }

pub loop-i-init : goal.loop-i-init
loop-i-init c = (omega arith, search rules, search rules, keeping_none _ _ _ _ _)

pub at-a-requires : goal.at-a-requires
at-a-requires c =
    let a = c.args in
    next_small a.list.now a.n a.firsts.now.low a.firsts.now.high a.seconds.now.low a.seconds.now.high c.requires c.loop-i.i c.loop-i.list (firsts c.loop-i.keys) (seconds c.loop-i.keys)
    c.loop-i.count c.loop-i.invariant.3 c.loop-i-test.true

pub at-b-requires : goal.at-b-requires
at-b-requires c =
    let a = c.args in
    next_small a.list.now a.n a.firsts.now.low a.firsts.now.high a.seconds.now.low a.seconds.now.high c.requires c.loop-i.i c.loop-i.list (firsts c.loop-i.keys) (seconds c.loop-i.keys)
    c.loop-i.count c.loop-i.invariant.3 c.loop-i-test.true

pub invariant_of-new : goal.invariant_of-new
invariant_of-new c =
    let a = c.args in
    record {
      is_first = next_first a.list.now a.n a.firsts.now.low a.firsts.now.high a.seconds.now.low a.seconds.now.high c.requires c.loop-i.i c.loop-i.list (firsts c.loop-i.keys) (seconds c.loop-i.keys)
          c.loop-i.count c.loop-i.invariant.3 c.loop-i-test.true _ c.at-a.ensures;
      is_second = next_second a.list.now a.n a.firsts.now.low a.firsts.now.high a.seconds.now.low a.seconds.now.high c.requires c.loop-i.i c.loop-i.list (firsts c.loop-i.keys) (seconds c.loop-i.keys)
          c.loop-i.count c.loop-i.invariant.3 c.loop-i-test.true _ c.at-b.ensures;
    }

pub take_in-count-requires : goal.take_in-count-requires
take_in-count-requires c =
    let a = c.args in
    let r = keeping-room a.list.now a.n a.firsts.now.low a.firsts.now.high a.seconds.now.low a.seconds.now.high c.requires c.loop-i.i c.loop-i.list (firsts c.loop-i.keys) (seconds c.loop-i.keys)
    c.loop-i.count c.loop-i.invariant.3 c.loop-i-test.true c.loop-i.invariant.1 in
    let e = c.loop-i.invariant.2 in
    (r.0, omega arith)

pub loop-i-preserved : goal.loop-i-preserved
loop-i-preserved c =
    let a = c.args in (
      omega arith,
      search rules,
      search rules,
      keeping-more a.list.now a.n a.firsts.now.low a.firsts.now.high a.seconds.now.low a.seconds.now.high c.requires c.loop-i.i c.loop-i.list (firsts c.loop-i.keys) (seconds c.loop-i.keys)
          c.loop-i.count c.loop-i.invariant.3 c.loop-i-test.true _ _ _ _ _ c.take_in-count.result c.at-a.ensures c.at-b.ensures c.take_in-count.ensures,
    )

pub returns : goal.returns
returns c = keeping_all _ _ _ _ _ _ c.loop-i.i _ _ _ c.loop-i.count (omega arith) c.loop-i.invariant.3
