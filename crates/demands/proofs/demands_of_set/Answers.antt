use Rattle.demands.proofs.HandIns.{settled-read-set}
use Rattle.demands.proofs.demands_of_set.Goals as goal

pub returns : goal.returns
returns c =
    let e = c.read_set.ensures in
    record { one = settled-read-set _ _ _ e; two = e }
