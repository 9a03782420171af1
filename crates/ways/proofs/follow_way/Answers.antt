use Rattle.ways.proofs.Searches.{none-ready}
use Rattle.ways.proofs.Ways.{taken_none, taken-all, taken-stuck, taken-next, falls-next, next-here, next-out}
use Rattle.ways.proofs.follow_way.Goals as goal

pub returns-then-has : goal.returns-then-has
returns-then-has c = taken-all _ _ _ _ _ (taken_none _ _ _) (c.has.ensures.yes c.if-has.true)

pub loop-v-init : goal.loop-v-init
loop-v-init c =
    let begun = c.begin-search.ensures in
    record {
      list = c.fill.ensures;
      search = begun.search c.args.graph c.fill.ensures;
      out = rw begun.same (c.has.ensures.no c.if-has.false);
      taken = rw begun.same (taken_none _ _ _);
    }

pub returns-then-v-target : goal.returns-then-v-target
returns-then-v-target c =
    let s = c.args.set.0 in
    let i = c.loop-v.invariant in
    let n = c.in-Some.ensures in
    taken-all _ _ _ _ _ (taken-next _ _ s _ _ _ _ _ i.out n _ i.taken) (next-here _ _ s _ _ _ _ _ i.out n c.if-v-target.true)

pub loop-v-smaller : goal.loop-v-smaller
loop-v-smaller c = falls-next _ _ c.args.set.0 _ _ _ _ _ c.loop-v.invariant.out c.in-Some.ensures

pub loop-v-preserved : goal.loop-v-preserved
loop-v-preserved c =
    let s = c.args.set.0 in
    let i = c.loop-v.invariant in
    let n = c.in-Some.ensures in
    record {
      list = i.list;
      search = n.search;
      out = next-out _ _ s _ _ _ _ _ i.out n c.if-v-target.false;
      taken = taken-next _ _ s _ _ _ _ _ i.out n _ i.taken;
    }

pub returns : goal.returns
returns c =
    let i = c.loop-v.invariant in
    let e = c.in_default.ensures in
    rw e.0 (taken-stuck _ _ _ _ _ i.taken i.out (none-ready _ _ e.1))
