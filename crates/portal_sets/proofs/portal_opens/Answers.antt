use mathlib.Core.List.{[]}
use Rattle.setup.specs.declared.Setup.{Setup}
use Rattle.quick_yes.specs.Answers.{quick_call}
use Rattle.questions.proofs.Told.{told}
use Rattle.portal_sets.proofs.portal_opens.Goals as goal

pub returns : goal.returns
returns c =
    let a = c.args in
    told (λ (x : Setup). quick_call x a.target a.set) _ _ c.setup_in-s.ensures _ [] _ _ c.opens-answer.ensures c.from.ensures
