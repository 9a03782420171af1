use mathlib.Core.Path.{sym, ◌∙◌}
use borrow.Author.Rules.{rules}
use Rattle.std.proofs.Common.{Fits, w64}
use lib.ListN.{get_or}
use Prim.Native.Nat.{◌^◌, ◌<◌}
use Rattle.vertex_set.proofs.Decisions.{decide-yes, decide-no}
use Rattle.closures.proofs.Colours.{found-decides}
use Rattle.closures.proofs.Passes.{falls-left}
use Rattle.attackers.proofs.Reaching.{reaching-none, reaching-skip, reaching-take, reaching-done, falls-take}
use Rattle.attackers.proofs.reaches.Goals as goal

pub loop-graph-init : goal.loop-graph-init
loop-graph-init c =
    let fits : c.args.set.0 < 2 ^ 64 = search rules in
    (c.requires, reaching-none _ _ c.requires _ _ fits c.to_look_at-left.ensures)

pub returns-then-has : goal.returns-then-has
returns-then-has c =
    decide-yes (c.loop-graph.invariant.1.sound _ (c.has.ensures.yes c.if-has.true))

pub returns-then-left-eq0 : goal.returns-then-left-eq0
returns-then-left-eq0 c =
    decide-no (reaching-done _ _ c.loop-graph.invariant.0 _ _ _ c.loop-graph.invariant.1 _ c.if-left-eq0.true (c.has.ensures.no c.if-has.false))

pub loop-graph-smaller-then-is_some : goal.loop-graph-smaller-then-is_some
loop-graph-smaller-then-is_some c =
    falls-take _ _ c.loop-graph.invariant.0 _ _ _ c.loop-graph.invariant.1 _ _ c.lowest-v.ensures.vertex c.without-left.ensures _ c.insert-held.ensures

pub loop-graph-preserved-then-is_some : goal.loop-graph-preserved-then-is_some
loop-graph-preserved-then-is_some c =
    let fits : c.insert-held.result.0 < 2 ^ 64 = search rules in
    let word : Fits w64 (get_or c.args.list.now c.lowest-v.result 0) = search rules in (
      c.loop-graph.invariant.0,
      reaching-take _ _ c.loop-graph.invariant.0 _ _ _ c.loop-graph.invariant.1 _ _ c.lowest-v.ensures.vertex c.without-left.ensures _ c.insert-held.ensures
          ((found-decides _ _ _ c.lowest_colour.ensures).yes (sym c.is_some.ensures ∙ c.if-is_some.true)) c.without-left.type_inv word.fits fits,
    )

pub loop-graph-smaller : goal.loop-graph-smaller
loop-graph-smaller c = falls-left _ _ _ c.without-left.ensures.less

pub loop-graph-preserved : goal.loop-graph-preserved
loop-graph-preserved c =
    (c.loop-graph.invariant.0, reaching-skip _ _ c.loop-graph.invariant.0 _ _ _ c.loop-graph.invariant.1 _ _ c.lowest-v.ensures.vertex c.without-left.ensures ((found-decides _ _ _ c.lowest_colour.ensures).no (sym c.is_some.ensures ∙ c.if-is_some.false)))
