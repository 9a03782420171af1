use mathlib.Core.Path.{refl, ◌∙◌}
use Rattle.std.specs.Prelude.{Ok, Err}
use Rattle.records.specs.Records.{way_code}
use Rattle.records.proofs.Attempts.{coded, attempts}
use Rattle.records.proofs.attempt.Goals as goal

pub returns-in-Ok : goal.returns-in-Ok
returns-in-Ok c = attempts _ _ _ _ _ _ (c.from.ensures ∙ coded c.args.loss) (Ok c.in-Ok.m) _ c.mark.ensures c.in-Ok.is

pub returns-in-Err : goal.returns-in-Err
returns-in-Err c =
    let a = c.args in
    rw c.number.ensures (attempts a.s a.student a.target (way_code a.loss) a.loss a.handed.now refl (Err c.in-Err.refusal) _ c.mark.ensures c.in-Err.is)
