use mathlib.Core.Path.{sym, ◌∙◌}
use Rattle.handin_lines.proofs.Shapes.{cut-one, second-inside, cut-more, cut-withdraws, cut-two}
use Rattle.handin_lines.proofs.lines.cut_fields.Goals as goal

pub returns-then-n-first : goal.returns-then-n-first
returns-then-n-first c =
    rw c.no.ensures (cut-one c.args.l.now c.find-first.result c.find-first.ensures c.if-n-first.true)

pub returns-then-second-n : goal.returns-then-second-n
returns-then-second-n c =
    cut-more c.args.l.now c.find-first.result c.find-first.ensures c.if-n-first.false c.find-second.result c.find-second.ensures c.if-second-n.true c.find-third.result c.find-third.ensures

pub slice_bounds-same_text-end : goal.slice_bounds-same_text-end
slice_bounds-same_text-end c =
    second-inside c.args.l.now c.find-first.result c.find-first.ensures c.if-n-first.false c.find-second.result c.find-second.ensures

pub returns-then-same_text : goal.returns-then-same_text
returns-then-same_text c =
    cut-withdraws c.args.l.now c.find-first.result c.find-first.ensures c.if-n-first.false c.find-second.result c.find-second.ensures c.if-second-n.false (sym c.same_text.ensures ∙ c.if-same_text.true)

pub returns : goal.returns
returns c =
    rw c.no-2.ensures
    (cut-two c.args.l.now c.find-first.result c.find-first.ensures c.if-n-first.false c.find-second.result c.find-second.ensures c.if-second-n.false (sym c.same_text.ensures ∙ c.if-same_text.false))
