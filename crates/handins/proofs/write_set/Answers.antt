-- `handins::write_set` meets its contract: the sheet's refusal, 14, then the names.
use borrow.Author.Rules.{rules}
use mathlib.Core.Path.{refl, ap}
use Rattle.std.specs.Prelude.{Ok, Err}
use Rattle.questions.specs.Refusals.{number}
use Rattle.questions.proofs.Refusals.{number_some}
use Rattle.sheet_format.specs.Read.{reading}
use Rattle.handin_format.specs.Calls.{set_written}
use Rattle.handins.proofs.Buffers.{can-name}
use Rattle.handins.proofs.SetCalls.{inside-yes, write-no-sheet, write-outside, write-names}
use Rattle.handins.proofs.write_set.Goals as goal

pub returns-in-Err : goal.returns-in-Err
returns-in-Err c =
    let a = c.args in
    write-no-sheet a.sheet.now a.set _ _ _ (reading (Err c.in-Err.refused)) c.in-Err.ensures (number_some _) refl refl

pub returns-in-Err-ask_set : goal.returns-in-Err-ask_set
returns-in-Err-ask_set c =
    let a = c.args in
    write-outside a.sheet.now a.set _ _ _ (reading (Ok c.in-Ok.setup)) c.in-Ok.ensures refl (number c.in-Err-ask_set.refusal) c.in-Err-ask_set.ensures (number_some _) refl refl

pub put_names-requires : goal.put_names-requires
put_names-requires c =
    let a = c.args in
    can-name a.sheet.now (reading (Ok c.in-Ok.setup)) c.in-Ok.ensures refl a.set (search rules) (inside-yes _ a.set 0 c.in_default.ensures refl)

pub returns : goal.returns
returns c =
    let a = c.args in
    write-names a.sheet.now a.set _ _ _ (reading (Ok c.in-Ok.setup)) c.in-Ok.ensures refl 0 c.in_default.ensures refl c.put_names.result (ap set_written c.ok_or.ensures.value) c.put_names.ensures
