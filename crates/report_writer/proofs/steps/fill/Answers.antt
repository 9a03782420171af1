use borrow.Author.Rules.{rules}
use mathlib.Core.Path.{refl, ◌∙◌}
use Rattle.report_writer.proofs.Filling.{filling-none, filling-more, went-going, went-inside, went-filling, left-some}
use Rattle.report_writer.proofs.steps.fill.Goals as goal

pub advance-next-requires : goal.advance-next-requires
advance-next-requires c = record { can_step = c.requires.can_step; room = rw (c.new-pen.ensures.bytes, c.new-pen.ensures.start) c.requires.in_bounds }

pub loop-source-init : goal.loop-source-init
loop-source-init c =
    let a = c.advance-next.ensures.step in
    (refl, filling-none _ _ _ _ _ _ _ _ (went-going _ _ _ _ _ _ _ _ _ _ _ c.requires.can_step a) (went-inside _ _ _ _ _ _ _ _ _ _ _ c.requires.can_step a))

pub left-requires : goal.left-requires
left-requires c = c.loop-source.invariant.1.inside

pub unfinished-requires : goal.unfinished-requires
unfinished-requires c = tt

pub loop-source-smaller : goal.loop-source-smaller
loop-source-smaller c = c.advance-next-in-loop-source.ensures.step.less (left-some _ _ (c.unfinished.ensures.yes c.if-unfinished.true))

pub loop-source-preserved : goal.loop-source-preserved
loop-source-preserved c =
    let l = c.loop-source in
    let a = c.advance-next-in-loop-source in
    (a.ensures.same ∙ l.invariant.0, filling-more _ _ _ _ _ _ _ _ _ _ _ _ _ _ _ l.invariant.1 a.auto.list (left-some _ _ (c.unfinished.ensures.yes c.if-unfinished.true)) a.ensures.step)

pub returns : goal.returns
returns c =
    let w = went-filling _ _ _ _ _ _ _ _ _ _ _ _ _ _ _ c.advance-next.ensures.step c.loop-source.invariant.1 in
    let v = rw (c.new-pen.ensures.bytes, c.new-pen.ensures.start) at w in
    search (rules, v)
