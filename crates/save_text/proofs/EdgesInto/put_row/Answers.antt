use mathlib.Core.Path.{◌≡◌}
use native.Mathlib.Omega.{arith}
use Rattle.save_format.specs.Inner.{edge_text, row_text}
use Rattle.sheet_format.specs.Names.{name_of}
use Rattle.save_text.proofs.Writing.{texts-none, texts-more, texts-room}
use borrow.Author.Rules.{rules}
use Rattle.save_text.proofs.EdgesInto.put_row.Goals as goal

pub loop-f-init : goal.loop-f-init
loop-f-init c = (search rules, texts-none _ _)

pub put_if_edge-requires : goal.put_if_edge-requires
unfolding row_text
put_if_edge-requires c =
    record { ends = c.requires.ends; room = texts-room (edge_text (name_of c.args.self.names.sheet.now) c.args.self.to c.args.self.colour c.args.needs c.args.marked) _ _ c.loop-f.f 64 c.loop-f-test.true c.loop-f.invariant.1 c.requires.room }

pub loop-f-preserved : goal.loop-f-preserved
loop-f-preserved c = (search rules, texts-more (edge_text (name_of c.args.self.names.sheet.now) c.args.self.to c.args.self.colour c.args.needs c.args.marked) _ _ c.loop-f.f _ c.loop-f.invariant.1 c.put_if_edge.ensures)

pub returns : goal.returns
unfolding row_text
returns c =
    let e : c.loop-f.f ≡ 64 = omega arith in
    rw e at c.loop-f.invariant.1
