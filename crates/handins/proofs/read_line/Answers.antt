-- `handins::read_line` meets its contract: the sheet, the line, the room, then the sets.
use mathlib.Core.Path.{refl}
use native.Mathlib.Omega.{arith}
use Rattle.std.specs.Prelude.{Ok, Err}
use Rattle.questions.proofs.Refusals.{number_some}
use Rattle.sheet_format.specs.Read.{reading}
use Rattle.sheet_lines.proofs.Accepted.{accepts-of, lines-there}
use Rattle.handin_lines.specs.declared.lines.LineRead.TheVariants as read
use Rattle.handin_lines.specs.Inner.Lines.{line_found}
use Rattle.handins.proofs.LineCalls.{read-no-sheet, read-no-line, read-none, read_short, read-counted, read_all}
use Rattle.handins.proofs.read_line.Goals as goal

pub returns-in-Err : goal.returns-in-Err
returns-in-Err c =
    let a = c.args in
    read-no-sheet a.sheet.now a.line.now a.handed.now (reading (Err c.in-Err.no)) c.in-Err.ensures _ _ (number_some _) refl refl

pub keys_of-found-requires : goal.keys_of-found-requires
keys_of-found-requires c = lines-there _ _ (accepts-of _ (reading (Ok c.in-Ok.setup)) c.in-Ok.ensures refl)

pub returns-in-Err-check_line : goal.returns-in-Err-check_line
returns-in-Err-check_line c =
    let a = c.args in
    read-no-line a.sheet.now a.line.now a.handed.now (reading (Ok c.in-Ok.setup)) c.in-Ok.ensures refl c.keys_of-found.result c.keys_of-found.ensures (line_found (Err c.in-Err-check_line.no)) c.in-Err-check_line.ensures _ _ (number_some _) refl refl

pub returns-in-Ok-Withdrawal : goal.returns-in-Ok-Withdrawal
returns-in-Ok-Withdrawal c =
    let a = c.args in
    read-none a.sheet.now a.line.now a.handed.now (reading (Ok c.in-Ok.setup)) c.in-Ok.ensures refl c.keys_of-found.result c.keys_of-found.ensures (line_found (Ok (read.Withdrawal c.in-Ok-Withdrawal.student))) (rw c.in-Ok-Withdrawal.field-0-is at c.in-Ok-Withdrawal.ensures) refl refl

pub returns-then-handed-attempt : goal.returns-then-handed-attempt
returns-then-handed-attempt c =
    let a = c.args in
    read_short a.sheet.now a.line.now a.handed.now (reading (Ok c.in-Ok.setup)) c.in-Ok.ensures refl c.keys_of-found.result c.keys_of-found.ensures (line_found (Ok (read.Attempt c.in-Ok-Attempt.attempt c.in-Ok-Attempt.start))) (rw c.in-Ok-Attempt.field-0-is at c.in-Ok-Attempt.ensures) refl refl _ _ c.if-handed-attempt.true refl refl

pub put_sets-requires : goal.put_sets-requires
put_sets-requires c =
    let a = c.args in
    let n = read-counted a.sheet.now a.line.now a.handed.now (reading (Ok c.in-Ok.setup)) c.in-Ok.ensures refl c.keys_of-found.result c.keys_of-found.ensures (line_found (Ok (read.Attempt c.in-Ok-Attempt.attempt c.in-Ok-Attempt.start))) (rw c.in-Ok-Attempt.field-0-is at c.in-Ok-Attempt.ensures) refl refl in
    let h = c.if-handed-attempt.false in
    omega (arith, n, h)

pub returns-else-handed-attempt : goal.returns-else-handed-attempt
returns-else-handed-attempt c =
    let a = c.args in
    read_all a.sheet.now a.line.now a.handed.now (reading (Ok c.in-Ok.setup)) c.in-Ok.ensures refl c.keys_of-found.result c.keys_of-found.ensures (line_found (Ok (read.Attempt c.in-Ok-Attempt.attempt c.in-Ok-Attempt.start))) (rw c.in-Ok-Attempt.field-0-is at c.in-Ok-Attempt.ensures) refl refl c.put_sets.result _ c.if-handed-attempt.false c.put_sets.ensures
