use Rattle.vertex_set.proofs.Sets.{shifted_one}
use Rattle.sheet_edges.proofs.with_need.Goals as goal

pub returns : goal.returns
returns c = rw (shifted_one c.args.edge.from c.args.edge.inside.0)
