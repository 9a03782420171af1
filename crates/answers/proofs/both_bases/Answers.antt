use mathlib.Core.Path.{refl}
use Rattle.std.proofs.lemmas.Result.{err_from_is_err_and}
use Rattle.questions.proofs.Questions.{target-asked, target-yes}
use Rattle.questions.proofs.Contract.{handed_on, fulfilled}
use Rattle.answers.specs.Answers.{bases_call}
use Rattle.answers.proofs.both_bases.Goals as goal

pub returns-in_err-ask_target : goal.returns-in_err-ask_target
returns-in_err-ask_target c =
    let a = c.args in
    let p = err_from_is_err_and c.from_residual.result c.from_residual.ensures.1 in
    handed_on _ (bases_call a.s a.target a.out.now) _ p.0 (target-asked a.s _ c.well_formed-formed.ensures a.target _ c.in_err-ask_target.ensures) _ p.1 p.2

pub write_bases-requires : goal.write_bases-requires
write_bases-requires c =
    let a = c.args in
    let y = target-yes a.s _ c.well_formed-formed.ensures a.target _ c.in_ok-ask_target.ensures refl in
    record { formed = y.0; vertex = y.1.0 }

pub returns : goal.returns
returns c =
    let a = c.args in
    let y = target-yes a.s _ c.well_formed-formed.ensures a.target _ c.in_ok-ask_target.ensures refl in
    fulfilled (bases_call a.s a.target a.out.now) _ y c.write_bases.ensures
