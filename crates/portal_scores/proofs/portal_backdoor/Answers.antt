use mathlib.Core.List.{[]}
use Rattle.setup.specs.declared.Setup.{Setup}
use Rattle.findings.specs.Answers.{backdoor_call}
use Rattle.questions.proofs.Told.{told}
use Rattle.portal_scores.proofs.portal_backdoor.Goals as goal

pub returns : goal.returns
returns c =
    let a = c.args in
    told (λ (x : Setup). backdoor_call x a.item) _ _ c.setup_in-s.ensures _ [] _ _ c.has_backdoor-answer.ensures c.from.ensures
