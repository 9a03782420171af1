-- `handins::put_names` meets its contract: `-`; or the names are written to a buffer of their own, and handed out.
use Rattle.sheet_format.specs.Names.{name_of}
use Rattle.report_text.specs.Rows.{set_text}
use Rattle.writing.proofs.HandingOut.{text-there}
use Rattle.handins.proofs.SetCalls.{names-empty, names-some}
use Rattle.handins.proofs.put_names.Goals as goal

pub returns-then-set-eq0 : goal.returns-then-set-eq0
returns-then-set-eq0 c = rw (names-empty (name_of c.args.sheet.now) c.args.set c.if-set-eq0.true) c.hand_out.ensures

pub returns : goal.returns
returns c =
    rw (names-some (name_of c.args.sheet.now) c.args.set c.if-set-eq0.false)
    (rw (text-there _ (set_text (name_of c.args.sheet.now) c.args.set) _ _ c.requires.short c.put_set-size.ensures) at c.hand_out-2.ensures)
