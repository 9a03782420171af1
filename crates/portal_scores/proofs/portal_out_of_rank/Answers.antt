use mathlib.Core.List.{[]}
use Rattle.setup.specs.declared.Setup.{Setup}
use Rattle.findings.specs.Answers.{inconsistent_call}
use Rattle.questions.proofs.Told.{told}
use Rattle.portal_scores.proofs.portal_out_of_rank.Goals as goal

pub returns : goal.returns
returns c =
    let a = c.args in
    told (λ (x : Setup). inconsistent_call x a.above a.below) _ _ c.setup_in-s.ensures _ [] _ _ c.inconsistent-answer.ensures c.from.ensures
