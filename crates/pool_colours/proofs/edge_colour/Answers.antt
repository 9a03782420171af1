-- `pool_colours::edge_colour` meets its contract: the colour is kept, or renamed.
use Rattle.pool_colours.proofs.Edges.{edge-never, colour-kept, colour-renamed}
use Rattle.pool_colours.proofs.edge_colour.Goals as goal

pub returns-in_default : goal.returns-in_default
returns-in_default c = record { each = λ d e x b m q. absurd (edge-never d e _ _ _ _ _ _ x _ b m q _ c.in_default.ensures) }

pub returns-in-None : goal.returns-in-None
returns-in-None c = record { each = λ d e x b m q. colour-kept d e _ _ _ _ _ _ x _ b m q c.in-Ok.edge c.in-Ok.ensures.taken c.in-None.is }

pub returns-in-Some : goal.returns-in-Some
returns-in-Some c =
    record { each = λ d f x b m q. colour-renamed d f _ _ _ _ _ _ x _ b m q c.in-Ok.edge c.in-Ok.ensures.taken c.in-Some.place c.new_colour.result c.in-Some.is c.new_colour.ensures }
