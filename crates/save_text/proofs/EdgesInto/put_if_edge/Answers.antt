-- `save_text::EdgesInto::put_if_edge` meets its contract: the row where there is an edge, else nothing.
use Rattle.sheet_format.specs.Names.{name_of}
use Rattle.writing.proofs.Pens.{penned_none}
use Rattle.save_text.proofs.Writing.{edge-there, edge_none}
use Rattle.save_text.proofs.EdgesInto.put_if_edge.Goals as goal

pub put_edge-requires : goal.put_edge-requires
put_edge-requires c =
    let m = c.has.ensures.yes c.if-has.true in
    record { ends = c.requires.ends.each c.args.from m; room = rw (edge-there (name_of c.args.self.names.sheet.now) c.args.self.to c.args.self.colour c.args.needs.0 c.args.marked.0 c.args.from c.has-mark.result m c.has-mark.ensures) at c.requires.room }

pub returns-then-has : goal.returns-then-has
returns-then-has c =
    let m = c.has.ensures.yes c.if-has.true in
    rw (edge-there (name_of c.args.self.names.sheet.now) c.args.self.to c.args.self.colour c.args.needs.0 c.args.marked.0 c.args.from c.has-mark.result m c.has-mark.ensures) c.put_edge.ensures

pub returns-else-has : goal.returns-else-has
returns-else-has c =
    rw (edge_none (name_of c.args.self.names.sheet.now) c.args.self.to c.args.self.colour c.args.needs.0 c.args.marked.0 c.args.from (c.has.ensures.no c.if-has.false)) (penned_none _)
