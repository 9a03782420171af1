use mathlib.Core.List.{[]}
use Rattle.setup.specs.declared.Setup.{Setup}
use Rattle.attackers.specs.Answers.{attacker_call}
use Rattle.questions.proofs.Told.{told}
use Rattle.portal_scores.proofs.portal_kinds.Goals as goal

pub returns : goal.returns
returns c =
    let a = c.args in
    told (λ (x : Setup). attacker_call x a.target a.kinds.now) _ _ c.setup_in-s.ensures _ [] _ _ c.attacker_score-answer.ensures c.from.ensures
