-- `portal_enter_line` meets its contract: the line's task is made by value, and the slice is passed on to `apply`.
use Rattle.handins.proofs.LineCalls.{line-entered}
use Rattle.portal_register.proofs.portal_enter_line.Goals as goal

pub returns : goal.returns
returns c =
    let a = c.args in
    line-entered a.used c.task_of-t.result c.apply.result a.records.now c.apply.new.records c.apply.ensures a.sheet.now a.line.now c.task_of-t.ensures
