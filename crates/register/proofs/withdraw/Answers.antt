-- `register::withdraw` meets its contract: the slice is passed on to `apply`.
use Rattle.register.proofs.Calls.{withdraws}
use Rattle.register.proofs.withdraw.Goals as goal

pub returns : goal.returns
returns c =
    let a = c.args in
    withdraws a.used a.student c.apply.result a.records.now c.apply.new.records c.apply.ensures
