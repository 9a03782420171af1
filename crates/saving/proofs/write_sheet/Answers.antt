-- `saving::write_sheet` meets its contract: the sheet's refusal, 12, 13, then the rows.
use mathlib.Core.Path.{refl, ap}
use Rattle.std.specs.Prelude.{Ok, Err}
use Rattle.questions.proofs.Refusals.{number_some}
use Rattle.sheet_format.specs.Read.{reading}
use Rattle.save_format.specs.Call.{saved}
use Rattle.saving.proofs.Calls.{call-refused, call-malformed, call-nameless, call-can, call-saves}
use Rattle.saving.proofs.write_sheet.Goals as goal

pub returns-in-Err : goal.returns-in-Err
returns-in-Err c =
    call-refused c.args.sheet.now c.args.s _ _ _ (reading (Err c.in-Err.refused)) c.in-Err.ensures (number_some _) refl refl

pub returns-then-not-well_formed : goal.returns-then-not-well_formed
returns-then-not-well_formed c =
    call-malformed c.args.sheet.now c.args.s _ _ _ (reading (Ok c.in-Ok.setup)) c.in-Ok.ensures refl (c.well_formed-2.ensures.no c.if-not-well_formed.true) refl refl

pub returns-then-names-count : goal.returns-then-names-count
returns-then-names-count c =
    call-nameless c.args.sheet.now c.args.s _ _ _ (reading (Ok c.in-Ok.setup)) c.in-Ok.ensures refl (c.well_formed-2.ensures.yes c.if-not-well_formed.false) c.if-names-count.true refl refl

pub save_named-requires : goal.save_named-requires
save_named-requires c =
    call-can c.args.sheet.now c.args.s (record { number = 0; length = 0 }) c.args.out.now c.args.out.now (reading (Ok c.in-Ok.setup)) c.in-Ok.ensures refl (c.well_formed-2.ensures.yes c.if-not-well_formed.false) c.if-names-count.false

pub returns : goal.returns
returns c =
    call-saves c.args.sheet.now c.args.s _ _ _ (reading (Ok c.in-Ok.setup)) c.in-Ok.ensures refl (c.well_formed-2.ensures.yes c.if-not-well_formed.false) c.if-names-count.false c.save_named.result (ap saved c.ok_or.ensures.value) c.save_named.ensures
