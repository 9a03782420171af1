use Rattle.std.proofs.Common.{true, refl}
use Rattle.questions.proofs.Refusals.{number_some}
use Rattle.portal.proofs.Portal.{portal-refused, portal-answers}
use Rattle.portal.proofs.portal_risk.Goals as goal

pub returns-in-Ok : goal.returns-in-Ok
returns-in-Ok c = portal-answers true _ _ _ c.in-Ok.ensures _ refl c.recoverability_score-answer.ensures c.code.result c.code.ensures

pub returns-in-Err : goal.returns-in-Err
returns-in-Err c = rw c.number.ensures (portal-refused true _ _ _ c.in-Err.ensures (number_some c.in-Err.refused.refusal))
