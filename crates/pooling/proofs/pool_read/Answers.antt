-- `pooling::pool_read` meets its contract: the plan, the buffer's room, the text.
use mathlib.Core.Path.{◌≡◌, refl}
use Rattle.std.proofs.Common.{rules}
use Rattle.std.proofs.lemmas.Result.{err_from_is_err_and}
use Rattle.sheet_lines.proofs.Refusing.{mapped-no, mapped-yes}
use Rattle.pooling.proofs.Calls.{can_write, read-refused, read_short, read-written}
use Rattle.pooling.proofs.pool_read.Goals as goal

pub returns-in_err-plan : goal.returns-in_err-plan
returns-in_err-plan c =
    let p = err_from_is_err_and c.from_residual.result c.from_residual.ensures.1 in
    let m = mapped-no c.plan_of.result c.map_err.result _ (λ e d. d ≡ record { refusal = e; sheet = 0; line = 0 }) (λ e d h. search rules) c.map_err.ensures.cases _ c.in_err-plan.was in
    rw (p.1, p.2, m.2) (read-refused _ _ _ _ c.requires c.plan_of.result c.plan_of.ensures _ _ m.0 m.1 refl)

pub returns-then-out-size : goal.returns-then-out-size
returns-then-out-size c =
    read_short _ _ _ _ c.requires c.plan_of.result c.plan_of.ensures _ _ c.in_ok-plan.plan (mapped-yes c.plan_of.result c.map_err.result _ c.map_err.ensures.cases _ c.in_ok-plan.was) c.if-out-size.true refl

pub write_pooled-requires : goal.write_pooled-requires
write_pooled-requires c =
    can_write _ _ _ _ c.in_ok-plan.plan _ c.requires c.plan_of.result c.plan_of.ensures (mapped-yes c.plan_of.result c.map_err.result _ c.map_err.ensures.cases _ c.in_ok-plan.was) c.if-out-size.false

pub returns : goal.returns
returns c =
    read-written _ _ _ _ c.requires c.plan_of.result c.plan_of.ensures _ _ c.in_ok-plan.plan (mapped-yes c.plan_of.result c.map_err.result _ c.map_err.ensures.cases _ c.in_ok-plan.was) c.if-out-size.false refl _ _ c.write_pooled.ensures
