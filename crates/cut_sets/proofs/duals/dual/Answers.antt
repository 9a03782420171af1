use Prim.Native.Nat.{◌-◌}
use native.Mathlib.Omega.{arith}
use borrow.Author.Rules.{rules}
use Rattle.cut_sets.proofs.Turning.{dual-word, below_none, below_more, below_all}
use Rattle.cut_sets.proofs.duals.dual.Goals as goal

pub loop-b-init : goal.loop-b-init
loop-b-init c = (search rules, below_none _ _ (search rules))

pub loop-b-preserved : goal.loop-b-preserved
loop-b-preserved c =
    (omega arith, below_more _ c.loop-b.out c.loop-b.b _ (omega arith) c.loop-b.invariant.1 (dual-word _ c.loop-b.b _ (search rules) c.turn_round-turned.ensures))

pub returns : goal.returns
returns c = below_all _ c.loop-b.out c.loop-b.b (omega arith) c.loop-b.invariant.1
