-- `report_sections::accounts::put_score_of` meets its contract: the row says what the facts say of v.
use mir.Val.{Fits}
use mir.Syntax.{w64}
use Rattle.report_facts.specs.Texts.{score_at}
use Rattle.report_sections.proofs.Parts.{part-wrote, part-empty, no-score, score-text, score-room}
use borrow.Author.Rules.{rules}
use Rattle.report_sections.proofs.accounts.put_score_of.Goals as goal

pub put-requires-clause-room : goal.put-requires-clause-room
put-requires-clause-room c =
    let low-score : Fits w64 c.number.result = search rules in
    let low-risk : Fits w64 c.number-2.result = search rules in
    score-room _ _ _ _ _ c.requires _ _ _ _ low-score.fits low-risk.fits

pub returns-then-not-has-clause-part : goal.returns-then-not-has-clause-part
returns-then-not-has-clause-part c =
    let a = c.args in
    part-empty score_at _ _ _ _ _ (no-score a.source.sheet.now a.source.facts.now a.v (c.has.ensures.no c.if-not-has.true)) c.requires

pub returns-clause-part : goal.returns-clause-part
returns-clause-part c =
    let a = c.args in
    let low-score : Fits w64 c.number.result = search rules in
    let low-risk : Fits w64 c.number-2.result = search rules in
    part-wrote score_at _ _ _ _ _ _ _ _
    (score-text a.source.sheet.now a.source.facts.now a.v _ _ _ _ c.number.ensures c.number-2.ensures (c.has.ensures.yes c.if-not-has.false) c.has-2.ensures c.has-3.ensures)
    (score-room _ _ _ _ _ c.requires _ _ _ _ low-score.fits low-risk.fits)
    c.put.ensures.row_written
