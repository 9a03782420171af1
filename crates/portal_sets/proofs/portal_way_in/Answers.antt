use Rattle.setup.specs.declared.Setup.{Setup}
use Rattle.access.specs.Answers.{way_call}
use Rattle.questions.proofs.Told.{told}
use Rattle.portal_sets.proofs.portal_way_in.Goals as goal

pub returns : goal.returns
returns c =
    let a = c.args in
    told (λ (x : Setup). way_call x a.target a.set a.items.now a.colours.now) _ _ c.setup_in-s.ensures _ _ _ _ c.access_derivation-answer.ensures c.from.ensures
