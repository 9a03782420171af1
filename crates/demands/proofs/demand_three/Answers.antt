use Rattle.demands.proofs.Demands.{three-reached}
use Rattle.demands.proofs.demand_three.Goals as goal

pub returns : goal.returns
returns c = three-reached _ _ _ _ _ _ c.demand_three.result c.demand_three.ensures
