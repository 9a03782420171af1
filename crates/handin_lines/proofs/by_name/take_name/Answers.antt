use native.Mathlib.Omega.{arith}
use Rattle.std.proofs.lemmas.Result.{err_from_is_err_and}
use Rattle.handin_lines.proofs.Naming.{name-refused, name-there, name_new}
use Rattle.handin_lines.proofs.by_name.take_name.Goals as goal

pub returns-in_err-v : goal.returns-in_err-v
returns-in_err-v c =
    let a = c.args in
    let p = err_from_is_err_and c.from_residual.result c.from_residual.ensures.1 in
    rw (p.1, p.2) (name-refused a.l.now a.low.now a.high.now a.count a.x _ c.in_err-v.ensures)

pub returns-then-x-v-eq1 : goal.returns-then-x-v-eq1
returns-then-x-v-eq1 c =
    let a = c.args in
    name-there a.l.now a.low.now a.high.now a.count a.x c.in_ok-v.v c.in_ok-v.ensures c.if-x-v-eq1.true

pub returns : goal.returns
returns c =
    let a = c.args in
    name_new a.l.now a.low.now a.high.now a.count a.x c.in_ok-v.v c.in_ok-v.ensures (omega arith) c.if-x-v-eq1.false
