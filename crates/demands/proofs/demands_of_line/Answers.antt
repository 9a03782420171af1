use Rattle.demands.proofs.HandIns.{settled-read-line}
use Rattle.demands.proofs.demands_of_line.Goals as goal

pub returns : goal.returns
returns c =
    let e = c.read_line.ensures in
    record { one = settled-read-line _ _ _ _ _ e; two = e }
