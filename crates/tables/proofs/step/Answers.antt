-- `tables::step` meets its contract: the family of v, put back in its place, is joined with what v gains.
-- Assumes nothing.
use Prim.Native.Nat.{◌+◌, ◌-◌, ◌*◌}
use native.Mathlib.Omega.{arith}
use borrow.Author.Rules.{rules}
use Rattle.tables.proofs.Parts.{stepped-in}
use Rattle.tables.proofs.step.Goals as goal

pub returns : goal.returns
returns c =
    let v = c.args.v in
    stepped-in _ _ v (v * 16 + 16 - v * 16) _ _ _ _ (search rules) c.requires (omega arith) c.admitted.ensures c.join.ensures
