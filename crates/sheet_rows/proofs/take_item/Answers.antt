use mathlib.Core.Path.{sym, ap, ◌∙◌}
use Prim.Native.Nat.{ℕ, ◌+◌}
use native.Mathlib.Omega.{arith}
use Rattle.std.proofs.lemmas.Result.{err_from_is_err_and}
use Rattle.sheet_rows.proofs.Items.{line-yes, some-is, none-is}
use Rattle.sheet_rows.proofs.Taking.{item-unread, item-used, item-taken, item-full}
use Rattle.sheet_rows.proofs.take_item.Goals as goal

pub returns-in_err-item : goal.returns-in_err-item
returns-in_err-item c =
    let p = err_from_is_err_and c.from_residual.result c.from_residual.ensures.1 in
    rw (p.1, p.2) (item-unread c.args.l.now c.args.keys.now.low c.args.keys.now.high c.args.keys.now.count c.args.starts c.args.losses _ c.in_err-item.ensures)

pub returns-then-is_some : goal.returns-then-is_some
returns-then-is_some c =
    let i = some-is c.find.result c.is_some.result c.is_some.ensures c.if-is_some.true in
    item-used c.args.l.now c.args.keys.now.low c.args.keys.now.high c.args.keys.now.count c.args.starts c.args.losses c.in_ok-item.item (line-yes _ _ _ _ c.in_ok-item.ensures) i.0 (sym i.1 ∙ c.find.ensures)

pub overflow_add-starts : goal.overflow_add-starts
overflow_add-starts c =
    let e = c.count_given.ensures.1 in
    omega (arith, c.requires.0)

pub overflow_add-losses : goal.overflow_add-losses
overflow_add-losses c =
    let e = c.count_given-2.ensures.1 in
    omega (arith, c.requires.1)

pub returns-then-not-has_room : goal.returns-then-not-has_room
returns-then-not-has_room c =
    let a = c.args in
    item-full c.args.l.now c.args.keys.now.low c.args.keys.now.high c.args.keys.now.count a.starts a.losses c.in_ok-item.item (line-yes _ _ _ _ c.in_ok-item.ensures) _ _
    (ap (λ (i : ℕ). a.starts + i) c.count_given.ensures.0) (ap (λ (i : ℕ). a.losses + i) c.count_given-2.ensures.0)
    (sym (none-is c.find.result c.is_some.result c.is_some.ensures c.if-is_some.false) ∙ c.find.ensures)
    (sym c.has_room.ensures ∙ c.if-not-has_room.true)

pub returns : goal.returns
returns c =
    let a = c.args in
    item-taken c.args.l.now c.args.keys.now.low c.args.keys.now.high c.args.keys.now.count a.starts a.losses c.in_ok-item.item (line-yes _ _ _ _ c.in_ok-item.ensures) _ _
    (ap (λ (i : ℕ). a.starts + i) c.count_given.ensures.0) (ap (λ (i : ℕ). a.losses + i) c.count_given-2.ensures.0)
    (sym (none-is c.find.result c.is_some.result c.is_some.ensures c.if-is_some.false) ∙ c.find.ensures)
    (sym c.has_room.ensures ∙ c.if-not-has_room.false)
