use Rattle.std.proofs.Common.{refl, sym, ◌∙◌}
use Rattle.sheet_format.proofs.Meaning.{empty-setup}
use Rattle.questions.proofs.Refusals.{number_some}
use Rattle.portal_sheets.proofs.Sheets.{read_short, read-refused, read-room}
use Rattle.portal_sheets.proofs.portal_read.Goals as goal

pub returns-in-Ok-reading : goal.returns-in-Ok-reading
returns-in-Ok-reading c = read-room _ _ c.in-Ok-reading.ensures _ _ _ c.if-setup-lt-SETUP_WORDS.false c.put_setup.ensures

pub returns-in-Err-reading : goal.returns-in-Err-reading
returns-in-Err-reading c =
    rw (c.from-in-Err-reading.ensures.0, c.from-in-Err-reading.ensures.1)
    (read-room _ _ c.in-Err-reading.ensures _ _ _ c.if-setup-lt-SETUP_WORDS.false (rw (c.no_items.ensures ∙ sym empty-setup) at c.put_setup-in-Err-reading.ensures))
