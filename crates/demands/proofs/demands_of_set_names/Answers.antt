use Rattle.demands.proofs.HandIns.{settled-write-set}
use Rattle.demands.proofs.demands_of_set_names.Goals as goal

pub returns : goal.returns
returns c =
    let e = c.write_set.ensures in
    record { one = settled-write-set _ _ _ _ _ _ e; two = e }
