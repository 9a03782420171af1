use mathlib.Core.Path.{refl}
use Rattle.std.specs.Prelude.{Ok, Err}
use Rattle.std.proofs.lemmas.Result.{err_from_is_err_and}
use Rattle.questions.proofs.Refusals.{number_some}
use Rattle.handin_lines.specs.Inner.Lines.{form_found}
use Rattle.handin_lines.proofs.Fields.{attempt-target, attempt-way, attempt-sets, attempt-read}
use Rattle.handin_lines.proofs.lines.check_attempt.Goals as goal

pub returns-in-Err : goal.returns-in-Err
returns-in-Err c =
    let a = c.args in
    rw c.no.ensures (attempt-target a.keys.now.low a.keys.now.high a.keys.now.count a.l.now (form_found (Ok a.form)) a.student (Err c.in-Err.refusal) c.in-Err.ensures (number_some _))

pub returns-in-None : goal.returns-in-None
returns-in-None c =
    let a = c.args in
    rw c.no-in-None.ensures (attempt-way a.keys.now.low a.keys.now.high a.keys.now.count a.l.now (form_found (Ok a.form)) a.student (Ok c.in-Ok.item) c.in-Ok.ensures refl _ c.in-None.ensures refl)

pub returns-in_err-count : goal.returns-in_err-count
returns-in_err-count c =
    let a = c.args in
    let p = err_from_is_err_and c.from_residual.result c.from_residual.ensures.1 in
    rw (p.1, p.2)
    (attempt-sets a.keys.now.low a.keys.now.high a.keys.now.count a.l.now (form_found (Ok a.form)) a.student (Ok c.in-Ok.item) c.in-Ok.ensures refl _ c.in-Some.ensures refl _ c.in_err-count.ensures (number_some _))

pub returns : goal.returns
returns c =
    let a = c.args in
    attempt-read a.keys.now.low a.keys.now.high a.keys.now.count a.l.now (form_found (Ok a.form)) a.student (Ok c.in-Ok.item) c.in-Ok.ensures refl _ c.in-Some.ensures refl _ c.in_ok-count.ensures refl
