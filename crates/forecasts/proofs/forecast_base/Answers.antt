-- The questions in their order, then the forecast.
-- Assumes nothing.
use mathlib.Core.Path.{refl}
use native.Mathlib.Nat.{lt_of_lt_of_le}
use Rattle.std.proofs.lemmas.Result.{err_from_is_err_and}
use Rattle.questions.proofs.Questions.{target-asked, target-yes}
use Rattle.questions.proofs.Contract.{handed_on, fulfilled, given}
use Rattle.forecasts.specs.Answers.{forecast_call}
use Rattle.forecasts.proofs.forecast_base.Goals as goal

pub returns-in_err-ask_target : goal.returns-in_err-ask_target
returns-in_err-ask_target c =
    let a = c.args in
    let p = err_from_is_err_and c.from_residual.result c.from_residual.ensures.1 in
    handed_on _ (forecast_call a.s a.target) _ p.0 (target-asked a.s _ c.well_formed-formed.ensures a.target _ c.in_err-ask_target.ensures) _ p.1 p.2

pub foretell-requires : goal.foretell-requires
foretell-requires c =
    let a = c.args in
    let y = target-yes a.s _ c.well_formed-formed.ensures a.target _ c.in_ok-ask_target.ensures refl in
    record { well_formed = y.0; target_bound = lt_of_lt_of_le y.1.0 y.0.most }

pub returns : goal.returns
returns c =
    let a = c.args in
    let y = target-yes a.s _ c.well_formed-formed.ensures a.target _ c.in_ok-ask_target.ensures refl in
    let call = forecast_call a.s a.target in
    fulfilled call _ y (given call c.foretell.result c.foretell.ensures tt _ refl)
