use Rattle.demands.proofs.Calls.{settled-pool}
use Rattle.demands.proofs.demands_of_pool.Goals as goal

pub returns : goal.returns
returns c =
    let e = c.pool_sheets.ensures in
    record { one = settled-pool _ _ _ _ _ e; two = e }
