-- `multiset_scores::multiset_score` meets its contract: questions 12 and 13, then the score.
-- Assumes nothing.
use mathlib.Core.Path.{refl}
use Rattle.std.proofs.lemmas.Result.{err_from_is_err_and}
use Rattle.questions.proofs.Asks.{AllYes}
use Rattle.questions.proofs.Questions.{target-asked, target-yes}
use Rattle.questions.proofs.Contract.{handed_on, fulfilled}
use Rattle.multiset_scores.specs.Answers.{bags_call}
use Rattle.multiset_scores.proofs.multiset_score.Goals as goal

pub returns-in_err-ask_target : goal.returns-in_err-ask_target
returns-in_err-ask_target c =
    let a = c.args in
    let p = err_from_is_err_and c.from_residual.result c.from_residual.ensures.1 in
    handed_on _ (bags_call a.s a.target a.places.now a.lengths.now) _ p.0 (target-asked a.s _ c.well_formed-formed.ensures a.target _ c.in_err-ask_target.ensures) _ p.1 p.2

pub write_score-requires : goal.write_score-requires
write_score-requires c =
    let yes-to : let a = c.args in AllYes (bags_call a.s a.target a.places.now a.lengths.now).questions = let a = c.args in
    target-yes a.s _ c.well_formed-formed.ensures a.target _ c.in_ok-ask_target.ensures refl in
    let y = yes-to in record { formed = y.0; vertex = y.1.0 }

pub returns : goal.returns
returns c =
    let yes-to : let a = c.args in AllYes (bags_call a.s a.target a.places.now a.lengths.now).questions = let a = c.args in
    target-yes a.s _ c.well_formed-formed.ensures a.target _ c.in_ok-ask_target.ensures refl in
    let a = c.args in
    fulfilled (bags_call a.s a.target a.places.now a.lengths.now) _ yes-to c.write_score.ensures
