use Rattle.living.proofs.Drawing.{with_rows, more_of, mark-of}
use Rattle.living.proofs.Named.draw.Goals as goal

pub returns : goal.returns
returns c =
    let a = c.args in
    record {
      graph = with_rows a.s.graph a.self.to c.with.result;
      recovery = with_rows a.s.recovery a.self.to c.mark.result;
      more = more_of a.s.graph a.self.from a.self.to a.self.colour c.with.result c.with.ensures;
      marked = mark-of a.s.recovery a.self.from a.self.to a.self.colour c.mark.result a.rec c.mark.ensures;
      drawn = c.redraw.ensures;
    }
