use mathlib.Core.Path.{refl}
use mathlib.Core.Bool.{true}
use native.Mathlib.Nat.{lt_of_lt_of_le}
use Rattle.std.proofs.lemmas.Result.{err_from_is_err_and}
use Rattle.bases.specs.Inner.Readers.{ScoreBoth}
use Rattle.questions.proofs.Questions.{target-asked, target-yes}
use Rattle.questions.proofs.Contract.{handed_on, fulfilled, given}
use Rattle.answers.specs.Answers.{score_call}
use Rattle.answers.proofs.recoverability_score.Goals as goal

pub returns-in_err-ask_target : goal.returns-in_err-ask_target
returns-in_err-ask_target c =
    let a = c.args in
    let p = err_from_is_err_and c.from_residual.result c.from_residual.ensures.1 in
    handed_on _ (score_call true a.s a.target) _ p.0 (target-asked a.s _ c.well_formed-formed.ensures a.target _ c.in_err-ask_target.ensures) _ p.1 p.2

pub score_of-requires : goal.score_of-requires
score_of-requires c =
    let a = c.args in
    let y = target-yes a.s _ c.well_formed-formed.ensures a.target _ c.in_ok-ask_target.ensures refl in
    (y.0, lt_of_lt_of_le y.1.0 y.0.most)

pub returns : goal.returns
returns c =
    let a = c.args in
    let y = target-yes a.s _ c.well_formed-formed.ensures a.target _ c.in_ok-ask_target.ensures refl in
    let call = score_call true a.s a.target in
    let h : ScoreBoth true a.s a.s.graph a.target c.of.result.0 = rw c.of.ensures c.score_of.ensures in
    fulfilled call _ y (given call c.of.result.0 (record { all = h.all; base = h.base }) tt _ refl)
