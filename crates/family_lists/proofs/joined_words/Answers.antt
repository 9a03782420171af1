use Prim.Native.Nat.{◌≤◌}
use native.Mathlib.Numerals.{add-one}
use native.Mathlib.Omega.{arith}
use lib.Count.{ones, ones-le}
use lib.ListN.{get_or, take}
use lib.Seq.{take-suc, take_all}
use mathlib.Core.Path.{◌≡◌}
use borrow.Author.Rules.{rules}
use Rattle.family_lists.proofs.Sizes.{joining-none, joining-more, joining-end}
use Rattle.family_lists.proofs.joined_words.Goals as goal

pub loop-b-init : goal.loop-b-init
loop-b-init c = (search rules, joining-none _ 9)

pub loop-b-preserved : goal.loop-b-preserved
loop-b-preserved c =
    let b = get_or c.args.occupied.now c.loop-b.b-index 0 in
    let few : ones b ≤ 8 = ones-le 8 b (c.requires.below c.loop-b.b-index (omega arith)) in (
      search rules,
      rw (add-one c.loop-b.b-index, take-suc c.args.occupied.now c.loop-b.b-index 0 (omega arith))
          (joining-more c.args.f.now (take c.loop-b.b-index c.args.occupied.now) c.loop-b.joined c.loop-b.invariant.1 b
          (omega (arith, few, c.loop-b.invariant.0))),
    )

pub returns : goal.returns
returns c =
    let all : take c.loop-b.b-index c.args.occupied.now ≡ c.args.occupied.now = take_all c.loop-b.b-index c.args.occupied.now (omega arith) in
    joining-end c.args.f.now c.args.occupied.now c.loop-b.joined c.requires (rw all at c.loop-b.invariant.1)
