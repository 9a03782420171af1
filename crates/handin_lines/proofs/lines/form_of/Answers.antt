use mathlib.Core.Path.{sym, ◌∙◌}
use Rattle.handin_lines.proofs.Shapes.{form-bytes, form-empty, form-cut}
use Rattle.handin_lines.proofs.lines.form_of.Goals as goal

pub returns-then-not-is_line : goal.returns-then-not-is_line
returns-then-not-is_line c = rw c.no.ensures (form-bytes c.args.l.now (sym c.is_line.ensures ∙ c.if-not-is_line.true))

pub returns-in-Some : goal.returns-in-Some
returns-in-Some c = rw c.no-in-Some.ensures (form-empty c.args.l.now (sym c.is_line.ensures ∙ c.if-not-is_line.false) c.in-Some.place c.in-Some.ensures)

pub returns-in-None : goal.returns-in-None
returns-in-None c = form-cut c.args.l.now (sym c.is_line.ensures ∙ c.if-not-is_line.false) c.in-None.ensures _ c.cut_fields.ensures
