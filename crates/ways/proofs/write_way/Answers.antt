use Rattle.std.proofs.Common.{ℕ, refl, sym, subst}
use Rattle.vertex_set.specs.Set.{Member}
use Rattle.setup.specs.Setup.{rows_at}
use Rattle.derivations.specs.Way.{LowestStep}
use Rattle.closures.specs.Inner.{ColourFound}
use Rattle.ways.proofs.Ways.{next-colour, falls-next, next-here, next-out, writing-none, writing-open, writing_more, writing-all}
use Rattle.ways.proofs.write_way.Goals as goal

pub returns-then-has : goal.returns-then-has
returns-then-has c = writing-all _ _ _ _ _ _ _ _ _ (writing-none _ _ _ _ _ c.requires) (c.has.ensures.yes c.if-has.true)

pub loop-v-init : goal.loop-v-init
loop-v-init c =
    let begun = c.begin-search.ensures in
    record {
      list = c.fill.ensures;
      search = begun.search c.args.graph c.fill.ensures;
      same = sym begun.same;
      out = rw begun.same (c.has.ensures.no c.if-has.false);
      writing = rw begun.same (writing-none _ _ _ _ _ c.requires);
    }

pub returns-then-v-target : goal.returns-then-v-target
returns-then-v-target c =
    let g = c.args.graph in
    let i = c.loop-v.invariant in
    let n = c.in-Some.ensures in
    let v = c.in-Some.v in
    let found = subst (λ (x : ℕ). ColourFound (rows_at g v) (Member x) c.lowest_colour.result) i.same c.lowest_colour.ensures in
    let step = subst (λ (x : ℕ). LowestStep g (Member c.loop-v.search.held.0) (record { vertex = v; colour = x })) (sym c.unwrap_or-colour.ensures)
    (next-colour _ _ _ n.ready n.lowest _ found).0 in
    writing-all _ _ _ _ _ _ _ _ _ (writing_more _ _ _ _ _ _ _ _ _ i.writing i.out _ step _ n.place n.taken)
    (next-here _ _ c.args.set.0 _ _ _ _ _ i.out n c.if-v-target.true)

pub loop-v-smaller : goal.loop-v-smaller
loop-v-smaller c = falls-next _ _ c.args.set.0 _ _ _ _ _ c.loop-v.invariant.out c.in-Some.ensures

pub loop-v-preserved : goal.loop-v-preserved
loop-v-preserved c =
    let g = c.args.graph in
    let i = c.loop-v.invariant in
    let n = c.in-Some.ensures in
    let v = c.in-Some.v in
    let found = subst (λ (x : ℕ). ColourFound (rows_at g v) (Member x) c.lowest_colour.result) i.same c.lowest_colour.ensures in
    let step = subst (λ (x : ℕ). LowestStep g (Member c.loop-v.search.held.0) (record { vertex = v; colour = x })) (sym c.unwrap_or-colour.ensures)
    (next-colour _ _ _ n.ready n.lowest _ found).0 in
    record {
      list = i.list;
      search = n.search;
      same = refl;
      out = next-out _ _ c.args.set.0 _ _ _ _ _ i.out n c.if-v-target.false;
      writing = writing_more _ _ _ _ _ _ _ _ _ i.writing i.out _ step _ n.place n.taken;
    }

pub returns : goal.returns
returns c =
    let i = c.loop-v.invariant in
    absurd (writing-open _ _ _ _ _ _ _ _ _ i.writing i.out c.in_default.ensures.1)
