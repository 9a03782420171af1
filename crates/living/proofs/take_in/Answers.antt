use mathlib.Core.Path.{refl}
use mathlib.Core.List.{[]}
use native.Mathlib.Nat.{lt_of_lt_of_le}
use Rattle.living.specs.Calls.{TakeIn, asks_of, back, Done}
use Rattle.questions.proofs.Asks.{ask-all}
use Rattle.questions.proofs.Questions.{target-asked, target-yes}
use Rattle.std.proofs.lemmas.Result.{err_from_is_err_and}
use Rattle.living.proofs.Calls.{handed-on}
use Rattle.living.proofs.Drawing.{in-redrawn}
use Rattle.living.proofs.take_in.Goals as goal

pub returns-in_err-ask_target : goal.returns-in_err-ask_target
returns-in_err-ask_target c =
    let a = c.args in
    let p = err_from_is_err_and c.from_residual.result c.from_residual.ensures.1 in
    handed-on a.s (TakeIn a.v) (asks_of (TakeIn a.v) a.s) [] refl _ p.0 (target-asked a.s _ c.well_formed-formed.ensures a.v _ c.in_err-ask_target.ensures) _ p.1 p.2

pub returns : goal.returns
returns c =
    let a = c.args in
    let y = target-yes a.s _ c.well_formed-formed.ensures a.v _ c.in_ok-ask_target.ensures refl in
    let w = y.0 in
    ask-all (back a.s) (Done (TakeIn a.v) a.s) (asks_of (TakeIn a.v) a.s) _ y (record {
      numbered = refl;
      redrawn =
          (in-redrawn a.s c.hold.result a.v c.insert-held.result.0 c.insert-start.result.0 w (lt_of_lt_of_le y.1.0 w.most)
          c.insert-held.ensures c.insert-start.ensures c.hold.ensures);
    })
