-- `demands::demands_of_withdrawal` meets its contract: the call is `register::withdraw`, and the demands follow from its contract.
use Rattle.demands.proofs.Calls.{settled-withdrawal}
use Rattle.demands.proofs.demands_of_withdrawal.Goals as goal

pub returns : goal.returns
returns c =
    let a = c.args in
    (settled-withdrawal a.used a.student c.withdraw.result a.records.now c.withdraw.new.records c.withdraw.ensures, c.withdraw.ensures)
