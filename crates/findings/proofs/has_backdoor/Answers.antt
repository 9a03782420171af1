-- The questions in their order, then the finding.
use mathlib.Core.Path.{refl}
use Rattle.std.proofs.lemmas.Result.{err_from_is_err_and}
use Rattle.questions.proofs.Questions.{target-asked, target-yes}
use Rattle.questions.proofs.Contract.{handed_on, fulfilled, given}
use Rattle.findings.specs.Answers.{backdoor_call}
use Rattle.findings.proofs.has_backdoor.Goals as goal

pub returns-in_err-ask_target : goal.returns-in_err-ask_target
returns-in_err-ask_target c =
    let a = c.args in
    let p = err_from_is_err_and c.from_residual.result c.from_residual.ensures.1 in
    handed_on _ (backdoor_call a.s a.v) _ p.0 (target-asked a.s _ c.well_formed-formed.ensures a.v _ c.in_err-ask_target.ensures) _ p.1 p.2

pub find_backdoor-requires : goal.find_backdoor-requires
find_backdoor-requires c =
    let a = c.args in
    let y = target-yes a.s _ c.well_formed-formed.ensures a.v _ c.in_ok-ask_target.ensures refl in
    record { formed = y.0; vertex = y.1.0 }

pub returns : goal.returns
returns c =
    let a = c.args in
    let y = target-yes a.s _ c.well_formed-formed.ensures a.v _ c.in_ok-ask_target.ensures refl in
    let call = backdoor_call a.s a.v in
    fulfilled call _ y (given call c.find_backdoor.result c.find_backdoor.ensures tt _ refl)
