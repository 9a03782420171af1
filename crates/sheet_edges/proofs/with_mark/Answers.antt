use Rattle.sheet_edges.proofs.with_mark.Goals as goal

pub returns-then-edge : goal.returns-then-edge
returns-then-edge c = rw c.if-edge.true c.with_need.ensures
