use mathlib.Core.Path.{◌≡◌}
use Prim.Native.Nat.{◌<◌}
use native.Mathlib.Numerals.{add-one}
use lib.ListN.{get_or, take, length-take}
use lib.Seq.{get_or-take}
use Rattle.std.proofs.Common.{arith, rules}
use Rattle.std.specs.Prelude.{None}
use Rattle.pool_text.specs.Inner.{row_at}
use Rattle.pool_text.proofs.Rows.{row-room, row-penned, fresh-none, fresh-more, fresh-room}
use Rattle.pool_text.proofs.put_remaining.Goals as goal

pub loop-j-init : goal.loop-j-init
loop-j-init c = fresh-none _ _ _ _

pub put_if-requires : goal.put_if-requires
put_if-requires c =
    let a = c.args in
    let s = c.args.shared.now in
    let t = c.loop-j-test.true in
    let l = length-take s.count s.places in
    let h : c.loop-j.j < s.count = omega arith in
    rw (add-one c.loop-j.j)
    (row-room (get_or s.places c.loop-j.j None) (get_or (take s.count s.places) c.loop-j.j None) (get_or-take s.count s.places c.loop-j.j None h)
    (row_at a.s.now a.from.now c.loop-j.j) c.loop-j.pen _ (search rules)
    (fresh-room a.s.now a.from.now s.places _ _ c.loop-j.j s.count h c.loop-j.invariant c.requires.room))

pub loop-j-preserved : goal.loop-j-preserved
loop-j-preserved c =
    let a = c.args in
    let s = c.args.shared.now in
    let t = c.loop-j-test.true in
    let l = length-take s.count s.places in
    let h : c.loop-j.j < s.count = omega arith in
    let w = row-penned (get_or s.places c.loop-j.j None) (get_or (take s.count s.places) c.loop-j.j None) (get_or-take s.count s.places c.loop-j.j None h)
    (row_at a.s.now a.from.now c.loop-j.j) c.loop-j.pen _ _ (search rules) (rw (add-one c.loop-j.j) at c.put_if.ensures) in
    rw (add-one c.loop-j.j) (fresh-more a.s.now a.from.now s.places _ _ c.loop-j.j _ c.loop-j.invariant w)

pub returns : goal.returns
returns c =
    let s = c.args.shared.now in
    let t = c.loop-j-test.false in
    let m = c.loop-j.auto.j-end in
    let l = length-take s.count s.places in
    let p = s.inside.long in
    let few = s.few in
    let e : c.loop-j.j ≡ s.count = omega arith in
    rw (← e) c.loop-j.invariant
