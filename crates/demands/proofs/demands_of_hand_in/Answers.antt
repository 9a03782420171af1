-- `demands::demands_of_hand_in` meets its contract: the call is `register::hand_in`, and the demands follow from its contract.
use Rattle.demands.proofs.Calls.{settled-hand-in}
use Rattle.demands.proofs.demands_of_hand_in.Goals as goal

pub returns : goal.returns
returns c =
    let a = c.args in
    (settled-hand-in a.s a.used a.student a.target a.loss a.handed.now c.hand_in.result a.records.now c.hand_in.new.records c.hand_in.ensures, c.hand_in.ensures)
