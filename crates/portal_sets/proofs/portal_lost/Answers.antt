use mathlib.Core.List.{[]}
use Rattle.setup.specs.declared.Setup.{Setup}
use Rattle.access.specs.Answers.{lost_call}
use Rattle.questions.proofs.Told.{told}
use Rattle.portal_sets.proofs.portal_lost.Goals as goal

pub returns : goal.returns
returns c =
    let a = c.args in
    told (λ (x : Setup). lost_call x a.set) _ _ c.setup_in-s.ensures _ [] _ _ c.lockout_from-answer.ensures c.from.ensures
