use Rattle.setup.specs.declared.Setup.{Setup}
use Rattle.answers.specs.Answers.{bases_call}
use Rattle.questions.proofs.Told.{told}
use Rattle.portal_sets.proofs.portal_lists.Goals as goal

pub returns : goal.returns
returns c =
    let a = c.args in
    told (λ (x : Setup). bases_call x a.target a.sets.now) _ _ c.setup_in-s.ensures _ _ _ _ c.both_bases-answer.ensures c.from.ensures
