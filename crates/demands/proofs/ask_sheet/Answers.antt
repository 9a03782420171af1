use Rattle.demands.proofs.Sheets.{reads}
use Rattle.demands.proofs.ask_sheet.Goals as goal

pub returns : goal.returns
returns c =
    record { reading = reads _ _ c.read_sheet-reading.ensures; asked = c.read_sheet-reading.ensures; score = c.portal_score-score.ensures; risk = c.portal_risk-risk.ensures }
