use mathlib.Core.Path.{refl, ap, ◌∙◌}
use lib.Dec.{eqb}
use Rattle.std.proofs.Common.{arith, rules, tests}
use Rattle.std.specs.Slice.Iter.{split_rest, split_done, split_callee}
use Rattle.std.proofs.lemmas.Iterator.Splits.{YieldsList-from_slice_split}
use Rattle.std.proofs.lemmas.Iterator.Consumers.{YieldsList-turn, YieldsList-end}
use Rattle.std.proofs.lemmas.List.{length_push}
use Rattle.questions.proofs.Refusals.{number_some}
use Rattle.std.specs.Prelude.{Ok, Err}
use Rattle.handin_lines.specs.Inner.Naming.{set_field}
use Rattle.handin_lines.specs.Inner.Splitting.{split_from}
use Rattle.handin_lines.proofs.Splitting.{rest-is, next_field, no_field, split-many, behind}
use Rattle.handin_lines.proofs.SetFields.{checking-first, checking-no, checking-next, checking-over, checking-none}
use Rattle.handin_lines.proofs.sets.check_sets.Goals as goal

pub returns-in_default : goal.returns-in_default
returns-in_default c =
    let a = c.args in
    checking-none a.low.now a.high.now a.count a.l.now a.start (behind _ _ c.in_default.ensures.lookup.0)

pub loop-field-init : goal.loop-field-init
loop-field-init c = let a = c.args in checking-first a.low.now a.high.now a.count (split_from 32 a.start a.l.now)

pub overflow_add-result : goal.overflow_add-result
overflow_add-result c =
    let i = c.loop-field.invariant.counted in
    let m = split-many 32 c.args.start c.args.l.now in
    omega (arith, i, m)

pub returns-in-Err : goal.returns-in-Err
returns-in-Err c =
    let a = c.args in
    let g = c.in-Some.ensures.lookup.0 in
    let t = YieldsList-turn (YieldsList-from_slice_split _ (λ b. eqb b 32) c.in-Some.rest.now (ap split_rest c.into_iter-field-iterator.ensures.into_iter_gives ∙ c.split-field-items.ensures.rest) (ap split_done c.into_iter-field-iterator.ensures.into_iter_gives ∙ c.split-field-items.ensures.done) (ap split_callee c.into_iter-field-iterator.ensures.into_iter_gives ∙ c.split-field-items.ensures.closure) (λ x b q k. search (rules, tests))) c.loop-field.yielded _ c.loop-field.yielded_by _ _ c.in-Some-field.field c.in-Some-field.is c.next.ensures.steps in
    let q = next_field a.l.now a.start c.in-Some.rest.now _ _ (rest-is a.l.now a.start c.in-Some.rest.now g.2) g.0 t in
    checking-no a.low.now a.high.now a.count a.l.now a.start (split_from 32 a.start a.l.now) c.loop-field.n _ c.loop-field.invariant _ _ q (set_field (Err c.in-Err.refusal)) c.in-Err.ensures refl _ (number_some _) refl refl

pub overflow_add-n : goal.overflow_add-n
overflow_add-n c =
    let i = c.loop-field.invariant.counted in
    let m = split-many 32 c.args.start c.args.l.now in
    omega (arith, i, m)

pub loop-field-preserved : goal.loop-field-preserved
loop-field-preserved c =
    let a = c.args in
    let g = c.in-Some.ensures.lookup.0 in
    let t = YieldsList-turn (YieldsList-from_slice_split _ (λ b. eqb b 32) c.in-Some.rest.now (ap split_rest c.into_iter-field-iterator.ensures.into_iter_gives ∙ c.split-field-items.ensures.rest) (ap split_done c.into_iter-field-iterator.ensures.into_iter_gives ∙ c.split-field-items.ensures.done) (ap split_callee c.into_iter-field-iterator.ensures.into_iter_gives ∙ c.split-field-items.ensures.closure) (λ x b q k. search (rules, tests))) c.loop-field.yielded _ c.loop-field.yielded_by _ _ c.in-Some-field.field c.in-Some-field.is c.next.ensures.steps in
    let q = next_field a.l.now a.start c.in-Some.rest.now _ _ (rest-is a.l.now a.start c.in-Some.rest.now g.2) g.0 t in
    rw (length_push c.loop-field.yielded c.in-Some-field.field)
    (checking-next a.low.now a.high.now a.count a.l.now a.start (split_from 32 a.start a.l.now) c.loop-field.n _ c.loop-field.invariant _ _ q (set_field (Ok c.in_default-set_among.field-0)) c.in_default-set_among.ensures refl)

pub returns : goal.returns
returns c =
    let a = c.args in
    let g = c.in-Some.ensures.lookup.0 in
    let t = YieldsList-end (YieldsList-from_slice_split _ (λ b. eqb b 32) c.in-Some.rest.now (ap split_rest c.into_iter-field-iterator.ensures.into_iter_gives ∙ c.split-field-items.ensures.rest) (ap split_done c.into_iter-field-iterator.ensures.into_iter_gives ∙ c.split-field-items.ensures.done) (ap split_callee c.into_iter-field-iterator.ensures.into_iter_gives ∙ c.split-field-items.ensures.closure) (λ x b q k. search (rules, tests))) c.loop-field.yielded _ c.loop-field.yielded_by _ _ c.in-None.is c.next.ensures.steps in
    let q = no_field a.l.now a.start c.in-Some.rest.now _ (rest-is a.l.now a.start c.in-Some.rest.now g.2) g.0 t.1 in
    checking-over a.low.now a.high.now a.count a.l.now a.start (split_from 32 a.start a.l.now) c.loop-field.n _ c.loop-field.invariant q refl
