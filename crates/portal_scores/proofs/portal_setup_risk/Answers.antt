use mathlib.Core.List.{[]}
use Rattle.setup.specs.declared.Setup.{Setup}
use mathlib.Core.Bool.{true}
use Rattle.answers.specs.Answers.{score_call}
use Rattle.questions.proofs.Told.{told}
use Rattle.portal_scores.proofs.portal_setup_risk.Goals as goal

pub returns : goal.returns
returns c =
    let a = c.args in
    told (λ (x : Setup). score_call true x a.target) _ _ c.setup_in-s.ensures _ [] _ _ c.recoverability_score-answer.ensures c.from.ensures
