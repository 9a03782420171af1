use mathlib.Core.Path.{refl}
use Rattle.std.proofs.lemmas.Result.{err_from_is_err_and}
use Rattle.bases.proofs.FullMarks.{full-marks}
use Rattle.questions.proofs.Questions.{target-asked, target-yes}
use Rattle.questions.proofs.Contract.{handed_on, fulfilled, given}
use Rattle.answers.specs.Answers.{marks_call}
use Rattle.answers.proofs.mark.Goals as goal

pub returns-in_err-ask_target : goal.returns-in_err-ask_target
returns-in_err-ask_target c =
    let a = c.args in
    let p = err_from_is_err_and c.from_residual.result c.from_residual.ensures.1 in
    handed_on _ (marks_call a.loss a.s a.target a.handed.now) _ p.0 (target-asked a.s _ c.well_formed-formed.ensures a.target _ c.in_err-ask_target.ensures) _ p.1 p.2

pub take_marks-requires : goal.take_marks-requires
take_marks-requires c =
    let a = c.args in
    let y = target-yes a.s _ c.well_formed-formed.ensures a.target _ c.in_ok-ask_target.ensures refl in
    record { formed = y.0; vertex = y.1.0 }

pub returns : goal.returns
returns c =
    let a = c.args in
    let y = target-yes a.s _ c.well_formed-formed.ensures a.target _ c.in_ok-ask_target.ensures refl in
    let call = marks_call a.loss a.s a.target a.handed.now in
    let m = c.take_marks.result in
    let h = c.take_marks.ensures.counts in
    fulfilled call _ y (given call m (record { counts = h; full = full-marks a.loss a.s a.s.graph a.target a.handed.now m.right m.repeated m.shut m.loose m.missing h }) tt _ refl)
