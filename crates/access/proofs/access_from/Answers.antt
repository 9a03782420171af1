use mathlib.Core.Path.{refl}
use Rattle.std.proofs.lemmas.Result.{err_from_is_err_and}
use Rattle.questions.proofs.Questions.{set-asked, set-yes}
use Rattle.questions.proofs.Contract.{handed_on, fulfilled, given}
use Rattle.access.specs.Answers.{closure_call}
use Rattle.access.proofs.Calls.{is-closure}
use Rattle.access.proofs.access_from.Goals as goal

pub returns-in_err-ask_set : goal.returns-in_err-ask_set
returns-in_err-ask_set c =
    let a = c.args in
    let p = err_from_is_err_and c.from_residual.result c.from_residual.ensures.1 in
    handed_on _ (closure_call a.s a.set.0) _ p.0 (set-asked a.s _ c.well_formed-formed.ensures a.set.0 _ c.in_err-ask_set.ensures) _ p.1 p.2

pub returns : goal.returns
returns c =
    let a = c.args in
    let y = set-yes a.s _ c.well_formed-formed.ensures a.set.0 _ c.in_ok-ask_set.ensures refl in
    let call = closure_call a.s a.set.0 in
    let r = c.closure-closed.result in
    fulfilled call _ y (given call (record { set = r.set.0; passes = r.passes }) (is-closure a.s y.0 a.set.0 r.set.0 r.passes c.closure-closed.ensures) tt _ refl)
