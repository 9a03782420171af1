use mathlib.Core.Path.{refl}
use mathlib.Core.List.{[]}
use Rattle.living.specs.Calls.{TakeOut, asks_of, back, Done}
use Rattle.questions.proofs.Asks.{ask-all}
use Rattle.questions.proofs.Questions.{target-asked, target-yes}
use Rattle.std.proofs.lemmas.Result.{err_from_is_err_and}
use Rattle.living.proofs.Calls.{handed-on}
use Rattle.living.proofs.Drawing.{out-redrawn}
use Rattle.living.proofs.take_out.Goals as goal

pub returns-in_err-ask_target : goal.returns-in_err-ask_target
returns-in_err-ask_target c =
    let a = c.args in
    let p = err_from_is_err_and c.from_residual.result c.from_residual.ensures.1 in
    handed-on a.s (TakeOut a.v) (asks_of (TakeOut a.v) a.s) [] refl _ p.0 (target-asked a.s _ c.well_formed-formed.ensures a.v _ c.in_err-ask_target.ensures) _ p.1 p.2

pub returns : goal.returns
returns c =
    let a = c.args in
    let y = target-yes a.s _ c.well_formed-formed.ensures a.v _ c.in_ok-ask_target.ensures refl in
    let w = y.0 in
    ask-all (back a.s) (Done (TakeOut a.v) a.s) (asks_of (TakeOut a.v) a.s) _ y (record {
      numbered = refl;
      redrawn =
          (out-redrawn a.s c.hold.result a.v c.let_go-held.result.0 w c.let_go-held.ensures c.hold.ensures);
    })
