use Prim.Native.Nat.{◌+◌, ◌-◌, ◌*◌}
use native.Mathlib.Omega.{arith}
use borrow.Author.Rules.{rules}
use Rattle.tables.proofs.Starts.{started-more, started-done}
use Rattle.tables.proofs.start.Goals as goal

pub loop-v-preserved : goal.loop-v-preserved
loop-v-preserved c =
    let v = c.loop-v.v in
    started-more c.args.chosen.0 v (v * 16 + 16 - v * 16) _ _ _ c.loop-v-test.true (omega arith) c.loop-v.invariant c.start_part.ensures (search rules)

pub returns : goal.returns
returns c =
    started-done c.args.chosen.0 _ _ (search rules) c.loop-v-test.false c.loop-v.invariant
