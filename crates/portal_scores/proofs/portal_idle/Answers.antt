use mathlib.Core.List.{[]}
use Rattle.setup.specs.declared.Setup.{Setup}
use Rattle.findings.specs.Answers.{ineffective_call}
use Rattle.questions.proofs.Told.{told}
use Rattle.portal_scores.proofs.portal_idle.Goals as goal

pub returns : goal.returns
returns c =
    let a = c.args in
    told (λ (x : Setup). ineffective_call x a.item) _ _ c.setup_in-s.ensures _ [] _ _ c.ineffective_recovery-answer.ensures c.from.ensures
