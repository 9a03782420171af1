-- `register::hand_in` meets its contract: the attempt is marked, and the slice is passed on to `apply`.
use Rattle.register.proofs.Calls.{hands_in}
use Rattle.register.proofs.hand_in.Goals as goal

pub returns : goal.returns
returns c =
    let a = c.args in
    hands_in a.s a.used a.student a.target a.loss a.handed.now c.attempt-task.result c.apply.result a.records.now c.apply.new.records c.attempt-task.ensures c.apply.ensures
