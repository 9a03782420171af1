use mathlib.Core.Path.{refl, sym, ◌∙◌}
use mathlib.Core.Bool.{true, false}
use Rattle.std.proofs.lemmas.Result.{err_from_is_err_and}
use Rattle.questions.proofs.Questions.{way_asked, way-yes}
use Rattle.questions.proofs.Contract.{handed_on, fulfilled}
use Rattle.quick_yes.specs.Answers.{quick_call}
use Rattle.quick_yes.proofs.Calls.{quick-given}
use Rattle.quick_yes.proofs.opens.Goals as goal

pub returns-in_err-ask_way : goal.returns-in_err-ask_way
returns-in_err-ask_way c =
    let a = c.args in
    let p = err_from_is_err_and c.from_residual.result c.from_residual.ensures.1 in
    handed_on _ (quick_call a.s a.target a.set.0) _ p.0 (way_asked a.s _ c.well_formed-formed.ensures a.target a.set.0 _ c.in_err-ask_way.ensures) _ p.1 p.2

pub returns-then-is_some : goal.returns-then-is_some
returns-then-is_some c =
    let a = c.args in
    let yes = way-yes a.s _ c.well_formed-formed.ensures a.target a.set.0 _ c.in_ok-ask_way.ensures refl in
    fulfilled (quick_call a.s a.target a.set.0) _ yes
    (quick-given a.s a.target a.set.0 c.follow_way-end.result.steps _ true c.follow_way-end.ensures (sym c.if-is_some.true ∙ c.is_some.ensures))

pub returns : goal.returns
returns c =
    let a = c.args in
    let yes = way-yes a.s _ c.well_formed-formed.ensures a.target a.set.0 _ c.in_ok-ask_way.ensures refl in
    fulfilled (quick_call a.s a.target a.set.0) _ yes
    (quick-given a.s a.target a.set.0 c.follow_way-end.result.steps _ false c.follow_way-end.ensures (sym c.if-is_some.false ∙ c.is_some.ensures))
