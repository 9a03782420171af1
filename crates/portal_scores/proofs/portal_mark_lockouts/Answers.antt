use mathlib.Core.List.{[]}
use Rattle.setup.specs.declared.Setup.{Setup}
use mathlib.Core.Bool.{true}
use Rattle.answers.specs.Answers.{marks_call}
use Rattle.questions.proofs.Told.{told}
use Rattle.portal_scores.proofs.portal_mark_lockouts.Goals as goal

pub returns : goal.returns
returns c =
    let a = c.args in
    told (λ (x : Setup). marks_call true x a.target a.sets.now) _ _ c.setup_in-s.ensures _ [] _ _ c.mark_lockout-answer.ensures c.from.ensures
