use mathlib.Core.Path.{◌≡◌, refl}
use Prim.Native.Nat.{◌+◌}
use lib.ListN.{drop, length-drop}
use Rattle.std.proofs.Common.{arith, rules}
use Rattle.std.proofs.lemmas.Result.{err_from_is_err_and}
use Rattle.sheet_fields.proofs.Cutting.{until-le}
use Rattle.sheet_lines.proofs.Refusing.{mapped-no, mapped-yes}
use Rattle.sheet_items.proofs.ItemRows.{so-far-none, over, none, some, refused-row, taken-row}
use Rattle.sheet_items.proofs.read_items.Goals as goal

pub loop-items-init : goal.loop-items-init
loop-items-init c = so-far-none c.args.s.now c.args.start _ _ refl refl

pub returns-then-items-eq0 : goal.returns-then-items-eq0
returns-then-items-eq0 c =
    none _ _ _ _ _ _ _ _ _ c.loop-items.invariant c.loop-items-test.true c.find-end.result c.find-end.ensures c.if-end-at.true c.if-items-eq0.true

pub returns-then-end-at : goal.returns-then-end-at
returns-then-end-at c =
    some _ _ _ _ _ _ _ _ _ c.loop-items.invariant c.loop-items-test.true c.find-end.result c.find-end.ensures c.loop-items.items.keys refl refl refl c.if-end-at.true c.if-items-eq0.false

pub slice_bounds-take_item-end : goal.slice_bounds-take_item-end
slice_bounds-take_item-end c =
    let s = c.args.s.now in
    let d = length-drop c.loop-items.items.at s in
    let u = until-le 10 (drop c.loop-items.items.at s) in
    let t = c.loop-items-test.true in
    let e = c.find-end.ensures in
    omega arith

pub returns-in_err-item : goal.returns-in_err-item
returns-in_err-item c =
    let p = err_from_is_err_and c.from_residual.result c.from_residual.ensures.1 in
    let m = mapped-no c.take_item.result c.map_err.result _ (λ e d. d ≡ record { refusal = e; line = c.loop-items.items.keys.count + 2 }) (λ e d h. search rules) c.map_err.ensures.cases _ c.in_err-item.was in
    rw (p.1, p.2, m.2)
    (refused-row _ _ _ _ _ _ _ _ _ c.loop-items.invariant c.loop-items-test.true c.find-end.result c.find-end.ensures c.if-end-at.false c.take_item.result c.take_item.ensures m.0 m.1)

pub loop-items-preserved : goal.loop-items-preserved
loop-items-preserved c =
    let p = c.push.ensures in
    rw (p.low, p.high, p.count)
    (taken-row _ _ _ _ _ _ _ _ _ c.loop-items.invariant c.loop-items-test.true c.find-end.result c.find-end.ensures c.if-end-at.false
    c.take_item.result c.take_item.ensures c.in_ok-item.item (mapped-yes c.take_item.result c.map_err.result _ c.map_err.ensures.cases _ c.in_ok-item.was))

pub returns : goal.returns
returns c = over _ _ _ _ _ _ _ _ _ c.loop-items.invariant c.loop-items-test.false
