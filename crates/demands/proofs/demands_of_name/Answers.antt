use Rattle.demands.proofs.Sheets.{named, settled-name}
use Rattle.demands.proofs.demands_of_name.Goals as goal

pub returns : goal.returns
returns c =
    let e = c.name_of.ensures in
    let n = named _ _ _ _ _ e.name e.place in
    record { one = settled-name _ _ _ _ _ n; two = n; within = e.within }
