-- `pooling::write_pooled` meets its contract: four parts, one behind the other.
use borrow.Author.Rules.{rules}
use mathlib.Core.Path.{sym}
use lib.Seq.{length-take-le}
use Rattle.pooling.proofs.Calls.{room-one, room-second, room-third, room-fourth, wrote-four}
use Rattle.pooling.proofs.write_pooled.Goals as goal

pub slice_bounds-put-end : goal.slice_bounds-put-end
slice_bounds-put-end c =
    sym (length-take-le c.args.plan.now.split c.args.first.now c.requires.parts.split)

pub put-requires : goal.put-requires
put-requires c = room-one c.args.first.now c.args.second.now c.args.plan.now _ c.requires _ c.new-pen.ensures

pub put_remaining-requires : goal.put_remaining-requires
put_remaining-requires c = record { rows_within = c.requires.parts.rows; room = room-second c.args.first.now c.args.second.now c.args.plan.now _ c.requires _ c.new-pen.ensures _ c.put.ensures }

pub slice_bounds-put-count : goal.slice_bounds-put-count
slice_bounds-put-count c = c.requires.parts.split

pub slice_bounds-put-start : goal.slice_bounds-put-start
slice_bounds-put-start c = c.requires.parts.split

pub put-requires-2 : goal.put-requires-2
put-requires-2 c = room-third c.args.first.now c.args.second.now c.args.plan.now _ c.requires _ c.new-pen.ensures _ c.put.ensures _ c.put_remaining.ensures

pub put_edges-requires : goal.put_edges-requires
put_edges-requires c =
    record { can_put = c.requires.parts.edges; room = room-fourth c.args.first.now c.args.second.now c.args.plan.now _ c.requires _ c.new-pen.ensures _ c.put.ensures _ c.put_remaining.ensures _ c.put-2.ensures }

pub returns : goal.returns
returns c =
    let w = wrote-four c.args.first.now c.args.second.now c.args.plan.now _ c.requires _ c.new-pen.ensures _ c.put.ensures _ c.put_remaining.ensures _ c.put-2.ensures _ c.put_edges.ensures in
    search (rules, w)
