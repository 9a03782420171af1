use mathlib.Core.List.{[]}
use Rattle.setup.specs.declared.Setup.{Setup}
use Rattle.access.specs.Answers.{closure_call}
use Rattle.questions.proofs.Told.{told}
use Rattle.portal_sets.proofs.portal_closure.Goals as goal

pub returns : goal.returns
returns c =
    let a = c.args in
    told (λ (x : Setup). closure_call x a.set) _ _ c.setup_in-s.ensures _ [] _ _ c.access_from-answer.ensures c.from.ensures
