use mathlib.Core.Path.{refl, ap, ◌∙◌}
use lib.Dec.{eqb}
use Rattle.std.proofs.Common.{arith, rules, tests}
use Rattle.std.specs.Slice.Iter.{split_rest, split_done, split_callee}
use Rattle.std.proofs.lemmas.Iterator.Splits.{YieldsList-from_slice_split}
use Rattle.std.proofs.lemmas.Iterator.Consumers.{YieldsList-turn, YieldsList-end}
use Rattle.std.proofs.lemmas.List.{length_push}
use Rattle.handin_lines.specs.Inner.Splitting.{split_from}
use Rattle.handin_lines.proofs.Splitting.{rest-is, next_field, no_field, split-many, behind}
use Rattle.handin_lines.proofs.SetFields.{set-read, putting-first, putting-room, putting-next, putting-over, putting-none}
use Rattle.handin_lines.proofs.sets.put_sets.Goals as goal

pub returns-in_default : goal.returns-in_default
returns-in_default c =
    let a = c.args in
    putting-none a.keys.now.low a.keys.now.high a.keys.now.count a.l.now a.start a.out.now (behind _ _ c.in_default.ensures.lookup.0)

pub loop-field-init : goal.loop-field-init
loop-field-init c = let a = c.args in putting-first a.keys.now.low a.keys.now.high a.keys.now.count (split_from 32 a.start a.l.now) a.out.now

pub offset_bounds-out-n : goal.offset_bounds-out-n
offset_bounds-out-n c =
    let i = c.loop-field.invariant.counted in
    let m = split-many 32 c.args.start c.args.l.now in
    let l = c.requires in
    omega (arith, i, m, l)

pub bounds-out-n : goal.bounds-out-n
bounds-out-n c =
    let a = c.args in
    let g = c.in-Some.ensures.lookup.0 in
    let t = YieldsList-turn (YieldsList-from_slice_split _ (λ b. eqb b 32) c.in-Some.rest.now (ap split_rest c.into_iter-field-iterator.ensures.into_iter_gives ∙ c.split-field-items.ensures.rest) (ap split_done c.into_iter-field-iterator.ensures.into_iter_gives ∙ c.split-field-items.ensures.done) (ap split_callee c.into_iter-field-iterator.ensures.into_iter_gives ∙ c.split-field-items.ensures.closure) (λ x b q k. search (rules, tests))) c.loop-field.yielded _ c.loop-field.yielded_by _ _ c.in-Some-field.field c.in-Some-field.is c.next.ensures.steps in
    let q = next_field a.l.now a.start c.in-Some.rest.now _ _ (rest-is a.l.now a.start c.in-Some.rest.now g.2) g.0 t in
    putting-room a.keys.now.low a.keys.now.high a.keys.now.count (split_from 32 a.start a.l.now) c.loop-field.n _ a.out.now c.loop-field.out c.loop-field.invariant _ _ q c.requires

pub overflow_add-n : goal.overflow_add-n
overflow_add-n c =
    let i = c.loop-field.invariant.counted in
    let m = split-many 32 c.args.start c.args.l.now in
    omega (arith, i, m)

pub loop-field-preserved : goal.loop-field-preserved
loop-field-preserved c =
    let a = c.args in
    let g = c.in-Some.ensures.lookup.0 in
    let t = YieldsList-turn (YieldsList-from_slice_split _ (λ b. eqb b 32) c.in-Some.rest.now (ap split_rest c.into_iter-field-iterator.ensures.into_iter_gives ∙ c.split-field-items.ensures.rest) (ap split_done c.into_iter-field-iterator.ensures.into_iter_gives ∙ c.split-field-items.ensures.done) (ap split_callee c.into_iter-field-iterator.ensures.into_iter_gives ∙ c.split-field-items.ensures.closure) (λ x b q k. search (rules, tests))) c.loop-field.yielded _ c.loop-field.yielded_by _ _ c.in-Some-field.field c.in-Some-field.is c.next.ensures.steps in
    let q = next_field a.l.now a.start c.in-Some.rest.now _ _ (rest-is a.l.now a.start c.in-Some.rest.now g.2) g.0 t in
    rw (length_push c.loop-field.yielded c.in-Some-field.field, c.unwrap_or.ensures, set-read c.set_of.result)
    (putting-next a.keys.now.low a.keys.now.high a.keys.now.count (split_from 32 a.start a.l.now) c.loop-field.n _ a.out.now c.loop-field.out c.loop-field.invariant _ _ q _ c.set_of.ensures)

pub returns : goal.returns
returns c =
    let a = c.args in
    let g = c.in-Some.ensures.lookup.0 in
    let t = YieldsList-end (YieldsList-from_slice_split _ (λ b. eqb b 32) c.in-Some.rest.now (ap split_rest c.into_iter-field-iterator.ensures.into_iter_gives ∙ c.split-field-items.ensures.rest) (ap split_done c.into_iter-field-iterator.ensures.into_iter_gives ∙ c.split-field-items.ensures.done) (ap split_callee c.into_iter-field-iterator.ensures.into_iter_gives ∙ c.split-field-items.ensures.closure) (λ x b q k. search (rules, tests))) c.loop-field.yielded _ c.loop-field.yielded_by _ _ c.in-None.is c.next.ensures.steps in
    let q = no_field a.l.now a.start c.in-Some.rest.now _ (rest-is a.l.now a.start c.in-Some.rest.now g.2) g.0 t.1 in
    putting-over a.keys.now.low a.keys.now.high a.keys.now.count a.l.now a.start (split_from 32 a.start a.l.now) c.loop-field.n _ a.out.now c.loop-field.out c.loop-field.invariant q refl
