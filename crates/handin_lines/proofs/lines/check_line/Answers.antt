use mathlib.Core.Path.{refl, sym}
use Rattle.std.specs.Prelude.{Ok}
use Rattle.sheet_rows.proofs.Items.{none-no, some-yes}
use Rattle.handin_format.specs.Lines.{is_student}
use Rattle.handin_lines.specs.Inner.Lines.{form_found}
use Rattle.handin_lines.proofs.Fields.{line-student, line-withdraws, line-attempt}
use Rattle.handin_lines.proofs.lines.check_line.Goals as goal

pub returns-in-None : goal.returns-in-None
unfolding is_student
returns-in-None c =
    let a = c.args in
    rw c.no.ensures (line-student a.keys.now.low a.keys.now.high a.keys.now.count a.l.now (form_found (Ok c.in_ok-form.form)) c.in_ok-form.ensures refl (none-no _ _ c.in-None.ensures))

pub returns-then-form-l : goal.returns-then-form-l
unfolding is_student
returns-then-form-l c =
    let a = c.args in
    let s = some-yes _ _ _ c.in-Some.ensures in
    line-attempt a.keys.now.low a.keys.now.high a.keys.now.count a.l.now (form_found (Ok c.in_ok-form.form)) c.in_ok-form.ensures refl c.in-Some.student s.0 (sym s.1) c.if-form-l.true _ c.check_attempt.ensures

pub returns : goal.returns
unfolding is_student
returns c =
    let a = c.args in
    let s = some-yes _ _ _ c.in-Some.ensures in
    line-withdraws a.keys.now.low a.keys.now.high a.keys.now.count a.l.now (form_found (Ok c.in_ok-form.form)) c.in_ok-form.ensures refl c.in-Some.student s.0 (sym s.1) c.if-form-l.false
