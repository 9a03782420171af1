-- `handin_lines::tasks::task_of` meets its contract: the sheet, then the line.
use mathlib.Core.Path.{refl}
use Rattle.std.specs.Prelude.{Ok, Err}
use Rattle.questions.proofs.Refusals.{number_some}
use Rattle.sheet_format.specs.Read.{reading}
use Rattle.sheet_lines.proofs.Accepted.{accepts-of, lines-there}
use Rattle.handin_lines.specs.declared.lines.LineRead.TheVariants as read
use Rattle.handin_lines.specs.Inner.Lines.{line_found}
use Rattle.handin_lines.proofs.Entering.{task-no-sheet, task-no-line, task-leaves, can-hand-over, task-hands-over}
use Rattle.handin_lines.proofs.tasks.task_of.Goals as goal

pub returns-in-Err : goal.returns-in-Err
returns-in-Err c =
    let a = c.args in
    task-no-sheet a.sheet.now a.line.now (reading (Err c.in-Err.refused)) c.in-Err.ensures _ (number_some _) c.number.ensures

pub keys_of-found-requires : goal.keys_of-found-requires
keys_of-found-requires c = lines-there _ _ (accepts-of _ (reading (Ok c.in-Ok.setup)) c.in-Ok.ensures refl)

pub returns-in-Err-check_line : goal.returns-in-Err-check_line
returns-in-Err-check_line c =
    let a = c.args in
    task-no-line a.sheet.now a.line.now (reading (Ok c.in-Ok.setup)) c.in-Ok.ensures refl c.keys_of-found.result c.keys_of-found.ensures (line_found (Err c.in-Err-check_line.no)) c.in-Err-check_line.ensures _ (number_some _) c.number-in-Err-check_line.ensures

pub returns-in-Ok-Withdrawal : goal.returns-in-Ok-Withdrawal
returns-in-Ok-Withdrawal c =
    let a = c.args in
    task-leaves a.sheet.now a.line.now (reading (Ok c.in-Ok.setup)) c.in-Ok.ensures refl c.keys_of-found.result c.keys_of-found.ensures (line_found (Ok (read.Withdrawal c.in-Ok-Withdrawal.student))) (rw c.in-Ok-Withdrawal.field-0-is at c.in-Ok-Withdrawal.ensures) refl _ refl refl

pub hand_over-requires : goal.hand_over-requires
hand_over-requires c =
    let a = c.args in
    can-hand-over a.sheet.now a.line.now (reading (Ok c.in-Ok.setup)) c.in-Ok.ensures refl c.keys_of-found.result c.keys_of-found.ensures (line_found (Ok (read.Attempt c.in-Ok-Attempt.attempt c.in-Ok-Attempt.start))) (rw c.in-Ok-Attempt.field-0-is at c.in-Ok-Attempt.ensures) refl refl

pub returns-in-Ok-Attempt : goal.returns-in-Ok-Attempt
returns-in-Ok-Attempt c =
    let a = c.args in
    task-hands-over a.sheet.now a.line.now (reading (Ok c.in-Ok.setup)) c.in-Ok.ensures refl c.keys_of-found.result c.keys_of-found.ensures (line_found (Ok (read.Attempt c.in-Ok-Attempt.attempt c.in-Ok-Attempt.start))) (rw c.in-Ok-Attempt.field-0-is at c.in-Ok-Attempt.ensures) refl _ refl c.hand_over.ensures
