use Rattle.setup.specs.declared.Setup.{Setup}
use Rattle.cut_sets.specs.Answers.{cuts_call}
use Rattle.questions.proofs.Told.{told}
use Rattle.portal_sets.proofs.portal_cut_sets.Goals as goal

pub returns : goal.returns
returns c =
    let a = c.args in
    told (λ (x : Setup). cuts_call x a.target a.sets.now) _ _ c.setup_in-s.ensures _ _ _ _ c.smallest_cuts-answer.ensures c.from.ensures
