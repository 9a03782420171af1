use mathlib.Core.Path.{refl, sym, ap, ◌∙◌}
use lib.Dec.{eqb}
use Rattle.std.proofs.Common.{rules, tests}
use Rattle.std.specs.Slice.Iter.{split_rest, split_done, split_callee}
use Rattle.std.proofs.lemmas.Iterator.Splits.{YieldsList-from_slice_split}
use Rattle.std.proofs.lemmas.Iterator.Consumers.{YieldsList-turn, YieldsList-end}
use Rattle.std.proofs.lemmas.List.{length_push}
use Rattle.std.proofs.lemmas.Result.{err_from_is_err_and}
use Rattle.questions.proofs.Refusals.{number_some}
use Rattle.handin_lines.proofs.Splitting.{next_part, no_part}
use Rattle.handin_lines.proofs.Naming.{reading-first, reading-refused, reading-next, reading-over, set-empty}
use Rattle.handin_lines.proofs.by_name.set_among.Goals as goal

pub returns-then-same_text : goal.returns-then-same_text
returns-then-same_text c =
    let a = c.args in
    set-empty a.low.now a.high.now a.count a.l.now (sym c.same_text.ensures ∙ c.if-same_text.true)

pub loop-name-init : goal.loop-name-init
loop-name-init c =
    let a = c.args in
    reading-first a.l.now a.low.now a.high.now a.count (sym c.same_text.ensures ∙ c.if-same_text.false)

pub returns-in_err-x : goal.returns-in_err-x
returns-in_err-x c =
    let a = c.args in
    let t = YieldsList-turn (YieldsList-from_slice_split _ (λ b. eqb b 43) c.args.l.now (ap split_rest c.into_iter-name-iterator.ensures.into_iter_gives ∙ c.split-name-items.ensures.rest) (ap split_done c.into_iter-name-iterator.ensures.into_iter_gives ∙ c.split-name-items.ensures.done) (ap split_callee c.into_iter-name-iterator.ensures.into_iter_gives ∙ c.split-name-items.ensures.closure) (λ x b q k. search (rules, tests))) c.loop-name.yielded _ c.loop-name.yielded_by _ _ c.in-Some.name c.in-Some.is c.next.ensures.steps in
    let p = err_from_is_err_and c.from_residual.result c.from_residual.ensures.1 in
    rw (p.1, p.2) (reading-refused a.l.now a.low.now a.high.now a.count c.loop-name.x _ c.loop-name.invariant _ _ (next_part _ _ _ t) _ c.in_err-x.ensures (number_some _))

pub loop-name-preserved : goal.loop-name-preserved
loop-name-preserved c =
    let a = c.args in
    let t = YieldsList-turn (YieldsList-from_slice_split _ (λ b. eqb b 43) c.args.l.now (ap split_rest c.into_iter-name-iterator.ensures.into_iter_gives ∙ c.split-name-items.ensures.rest) (ap split_done c.into_iter-name-iterator.ensures.into_iter_gives ∙ c.split-name-items.ensures.done) (ap split_callee c.into_iter-name-iterator.ensures.into_iter_gives ∙ c.split-name-items.ensures.closure) (λ x b q k. search (rules, tests))) c.loop-name.yielded _ c.loop-name.yielded_by _ _ c.in-Some.name c.in-Some.is c.next.ensures.steps in
    rw (length_push c.loop-name.yielded c.in-Some.name)
    (reading-next a.l.now a.low.now a.high.now a.count c.loop-name.x _ c.loop-name.invariant _ _ (next_part _ _ _ t) _ c.in_ok-x.ensures refl)

pub returns : goal.returns
returns c =
    let a = c.args in
    let t = YieldsList-end (YieldsList-from_slice_split _ (λ b. eqb b 43) c.args.l.now (ap split_rest c.into_iter-name-iterator.ensures.into_iter_gives ∙ c.split-name-items.ensures.rest) (ap split_done c.into_iter-name-iterator.ensures.into_iter_gives ∙ c.split-name-items.ensures.done) (ap split_callee c.into_iter-name-iterator.ensures.into_iter_gives ∙ c.split-name-items.ensures.closure) (λ x b q k. search (rules, tests))) c.loop-name.yielded _ c.loop-name.yielded_by _ _ c.in-None.is c.next.ensures.steps in
    reading-over a.l.now a.low.now a.high.now a.count c.loop-name.x _ c.loop-name.invariant (no_part _ _ t.1)
