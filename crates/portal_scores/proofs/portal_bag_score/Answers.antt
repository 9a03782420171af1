use Rattle.setup.specs.declared.Setup.{Setup}
use Rattle.multiset_scores.specs.Answers.{bags_call}
use Rattle.questions.proofs.Told.{told}
use Rattle.portal_scores.proofs.portal_bag_score.Goals as goal

pub returns : goal.returns
returns c =
    let a = c.args in
    told (λ (x : Setup). bags_call x a.target a.values.now a.lengths.now) _ _ c.setup_in-s.ensures _ _ _ _ c.multiset_score-answer.ensures c.from.ensures
