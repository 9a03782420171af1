use Prim.Native.Nat.{◌≤◌}
use native.Mathlib.Omega.{arith}
use borrow.Author.Rules.{rules}
use lib.Bits.{bit_and}
use lib.Count.{ones}
use lib.ListN.{get_or}
use Rattle.marking.proofs.Seeing.{meet-next, meet-end, and-ones}
use Rattle.marking.proofs.count_common.Goals as goal

pub loop-b-preserved : goal.loop-b-preserved
loop-b-preserved c =
    let few : ones (bit_and (get_or c.args.f.now c.loop-b.b 0) (get_or c.args.g.now c.loop-b.b 0)) ≤ 64 = and-ones _ _ (search rules) in
    let a = c.args in
    let e = meet-next a.f.now a.g.now c.loop-b.b (omega arith) (omega arith) in
    omega (arith, few)

pub returns : goal.returns
returns c =
    let a = c.args in
    let e = meet-end a.f.now a.g.now c.loop-b.b (omega arith) (omega arith) in
    omega arith
