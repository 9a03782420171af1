use Rattle.demands.proofs.Demands.{one_of_two}
use Rattle.demands.proofs.demand_one.Goals as goal

pub returns : goal.returns
returns c =
    one_of_two _ _ _ _ _ _ c.demand_two.result c.demand_two.ensures
