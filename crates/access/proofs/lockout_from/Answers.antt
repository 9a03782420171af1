use mathlib.Core.Path.{refl}
use Rattle.std.proofs.lemmas.Result.{err_from_is_err_and}
use Rattle.questions.proofs.Questions.{set-asked, set-yes}
use Rattle.questions.proofs.Contract.{handed_on, fulfilled, given}
use Rattle.access.specs.Answers.{lost_call}
use Rattle.derivations.specs.Lockout.{lockout}
use Rattle.derivations.proofs.Graphs.{lockout-lawful}
use Rattle.derivations.proofs.Passes.{passes-closure}
use Rattle.access.proofs.lockout_from.Goals as goal

pub returns-in_err-ask_set : goal.returns-in_err-ask_set
returns-in_err-ask_set c =
    let a = c.args in
    let p = err_from_is_err_and c.from_residual.result c.from_residual.ensures.1 in
    handed_on _ (lost_call a.s a.set.0) _ p.0 (set-asked a.s _ c.well_formed-formed.ensures a.set.0 _ c.in_err-ask_set.ensures) _ p.1 p.2

pub returns : goal.returns
returns c =
    let a = c.args in
    let y = set-yes a.s _ c.well_formed-formed.ensures a.set.0 _ c.in_ok-ask_set.ensures refl in
    let call = lost_call a.s a.set.0 in
    let r = c.closure-lost.result in
    fulfilled call _ y (given call r.set.0 (passes-closure (lockout a.s.graph) (lockout-lawful a.s.graph) r.passes a.set.0 r.set.0 c.closure-lost.ensures) tt _ refl)
