use mathlib.Core.Path.{◌≡◌, ap}
use lib.Count.{count_trailing_zeros}
use borrow.Author.Rules.{rules}
use Prim.Native.Nat.{ℕ, ◌-◌, ◌*◌, ◌%◌, ◌^◌}
use native.Mathlib.Omega.{arith}
use Rattle.vertex_set.proofs.Places.{Lowest, lowest}
use Rattle.report_rows.proofs.Items.{items-none, items-room, items_more, items-end}
use Rattle.report_rows.proofs.fields.ItemNames.put_items.Goals as goal

pub loop-rest-init : goal.loop-rest-init
loop-rest-init c = items-none _ _ _ (search rules)

pub overflow_sub-rest : goal.overflow_sub-rest
overflow_sub-rest c =
    let low : Lowest c.loop-rest.rest = lowest c.loop-rest.rest c.loop-rest.invariant.small c.loop-rest-test.true in
    omega (arith, low)

pub put_item-requires : goal.put_item-requires
put_item-requires c =
    let low : Lowest c.loop-rest.rest = lowest c.loop-rest.rest c.loop-rest.invariant.small c.loop-rest-test.true in
    let less : c.loop-rest.rest - (1 * 2 ^ count_trailing_zeros 64 c.loop-rest.rest) % 2 ^ 64 ≡ c.loop-rest.rest - 2 ^ count_trailing_zeros 64 c.loop-rest.rest = ap (λ (p : ℕ). c.loop-rest.rest - p) low.power in
    record { item = c.requires.items.each _ (c.loop-rest.invariant.within.each _ low.member); room = items-room _ _ _ _ _ c.loop-rest.invariant _ less c.loop-rest-test.true c.requires.room }

pub loop-rest-preserved : goal.loop-rest-preserved
loop-rest-preserved c =
    let low : Lowest c.loop-rest.rest = lowest c.loop-rest.rest c.loop-rest.invariant.small c.loop-rest-test.true in
    let less : c.loop-rest.rest - (1 * 2 ^ count_trailing_zeros 64 c.loop-rest.rest) % 2 ^ 64 ≡ c.loop-rest.rest - 2 ^ count_trailing_zeros 64 c.loop-rest.rest = ap (λ (p : ℕ). c.loop-rest.rest - p) low.power in
    items_more _ _ _ _ _ c.loop-rest.invariant _ less c.loop-rest-test.true _ c.put_item.ensures

pub returns : goal.returns
returns c = items-end _ _ _ _ _ c.loop-rest.invariant c.loop-rest-test.false
