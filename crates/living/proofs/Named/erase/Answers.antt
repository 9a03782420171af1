use Rattle.living.proofs.Drawing.{with_rows, less-of}
use Rattle.living.proofs.Named.erase.Goals as goal

pub returns : goal.returns
returns c =
    let a = c.args in
    record {
      graph = with_rows a.s.graph a.self.to c.without.result;
      recovery = with_rows a.s.recovery a.self.to c.without-2.result;
      less = less-of a.s.graph a.self.from a.self.to a.self.colour c.without.result c.without.ensures;
      unmarked = less-of a.s.recovery a.self.from a.self.to a.self.colour c.without-2.result c.without-2.ensures;
      drawn = c.redraw.ensures;
    }
