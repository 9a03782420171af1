use mathlib.Core.Path.{sym, ◌∙◌}
use Rattle.tables.proofs.Blocks.{found, not_found}
use Rattle.tables.proofs.vertex_at.Goals as goal

pub returns-then-place_among-k : goal.returns-then-place_among-k
returns-then-place_among-k c =
    let vertex = c.in-Some.ensures.steps.0.vertex in
    found _ _ _ _ vertex.place vertex.member (sym c.place_among.ensures ∙ c.if-place_among-k.true) c.loop-v.invariant

pub returns : goal.returns
returns c = not_found _ _ _ c.in-None.ensures.steps c.loop-v.invariant
