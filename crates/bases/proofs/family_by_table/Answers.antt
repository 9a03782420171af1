-- `bases::family_by_table` meets its contract: the words copied are those of the target in the table.
-- Assumes nothing.
use Rattle.derivations.specs.Both.{rule_of}
use Rattle.bases.proofs.Readers.{copied-family, copied}
use Prim.Native.Nat.{◌+◌, ◌-◌, ◌*◌}
use native.Mathlib.Omega.{arith}
use Rattle.bases.proofs.family_by_table.Goals as goal

pub returns : goal.returns
returns c =
    let a = c.args in
    let all = copied c.fill.new.w (a.target * 256) 256 (a.target * 256 + 256 - a.target * 256) _ (omega arith) (omega (arith, c.requires)) c.copy_from_slice.ensures.after in
    copied-family (rule_of a.loss a.graph) a.chosen.0 a.target _ _ c.requires c.fill.ensures.table all
