use mathlib.Core.Path.{sym, ◌∙◌}
use mathlib.Core.Bool.{true, false}
use Rattle.report_text.specs.Rows.{way_text}
use Rattle.handin_lines.proofs.Fields.{way-lock, way-other}
use Rattle.handin_lines.proofs.lines.way_of.Goals as goal

pub returns-then-same_text : goal.returns-then-same_text
unfolding way_text
returns-then-same_text c = way-lock c.args.f.now (sym c.same_text.ensures ∙ c.if-same_text.true)

pub returns-then-same_text-2 : goal.returns-then-same_text-2
unfolding way_text
returns-then-same_text-2 c = way-other c.args.f.now true (sym c.same_text.ensures ∙ c.if-same_text.false) (sym c.if-same_text-2.true ∙ c.same_text-2.ensures)

pub returns : goal.returns
unfolding way_text
returns c = way-other c.args.f.now false (sym c.same_text.ensures ∙ c.if-same_text.false) (sym c.if-same_text-2.false ∙ c.same_text-2.ensures)
