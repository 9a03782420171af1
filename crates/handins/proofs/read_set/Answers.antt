-- `handins::read_set` meets its contract: the sheet, and then the text.
use mathlib.Core.Path.{refl}
use Rattle.std.specs.Prelude.{Ok, Err}
use Rattle.questions.proofs.Refusals.{number_some}
use Rattle.sheet_format.specs.Read.{reading}
use Rattle.sheet_lines.proofs.Accepted.{accepts-of, lines-there}
use Rattle.handin_lines.specs.Inner.Naming.{set_field}
use Rattle.handins.proofs.SetCalls.{set-no-sheet, set-refused, set_told_lem}
use Rattle.handins.proofs.read_set.Goals as goal

pub returns-in-Err : goal.returns-in-Err
returns-in-Err c =
    let a = c.args in
    set-no-sheet a.sheet.now a.text.now (reading (Err c.in-Err.refused)) c.in-Err.ensures _ (number_some _) refl

pub keys_of-found-requires : goal.keys_of-found-requires
keys_of-found-requires c = lines-there _ _ (accepts-of _ (reading (Ok c.in-Ok.setup)) c.in-Ok.ensures refl)

pub returns-in-Err-set_of : goal.returns-in-Err-set_of
returns-in-Err-set_of c =
    let a = c.args in
    set-refused a.sheet.now a.text.now (reading (Ok c.in-Ok.setup)) c.in-Ok.ensures refl c.keys_of-found.result c.keys_of-found.ensures (set_field (Err c.in-Err-set_of.refusal)) c.in-Err-set_of.ensures _ (number_some _) refl

pub returns-in-Ok-set_of : goal.returns-in-Ok-set_of
returns-in-Ok-set_of c =
    let a = c.args in
    set_told_lem a.sheet.now a.text.now (reading (Ok c.in-Ok.setup)) c.in-Ok.ensures refl c.keys_of-found.result c.keys_of-found.ensures (set_field (Ok c.in-Ok-set_of.set)) c.in-Ok-set_of.ensures _ refl refl
