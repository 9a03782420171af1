use Rattle.demands.proofs.ForC.{settled-for-c}
use Rattle.histories.specs.Requests.{Save}
use Rattle.demands.proofs.demands_of_saving.Goals as goal

pub returns : goal.returns
returns c =
    let e = c.write_sheet.ensures in
    record { one = settled-for-c.calls (Save _ _) _ _ _ _ e; two = e }
