use mathlib.Core.List.{[]}
use Rattle.setup.specs.declared.Setup.{Setup}
use Rattle.next_sets.specs.Answers.{next_call}
use Rattle.questions.proofs.Told.{told}
use Rattle.portal_sets.proofs.portal_next_opening.Goals as goal

pub returns : goal.returns
returns c =
    let a = c.args in
    told (λ (x : Setup). next_call x a.target a.last) _ _ c.setup_in-s.ensures _ [] _ _ c.next_access_set-answer.ensures c.from.ensures
