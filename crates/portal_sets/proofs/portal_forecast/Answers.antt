use mathlib.Core.List.{[]}
use Rattle.setup.specs.declared.Setup.{Setup}
use Rattle.forecasts.specs.Answers.{forecast_call}
use Rattle.questions.proofs.Told.{told}
use Rattle.portal_sets.proofs.portal_forecast.Goals as goal

pub returns : goal.returns
returns c =
    let a = c.args in
    told (λ (x : Setup). forecast_call x a.target) _ _ c.setup_in-s.ensures _ [] _ _ c.forecast_base-answer.ensures c.from.ensures
