use native.Mathlib.Omega.{arith}
use Rattle.bases.proofs.Readers.{repeated-family, filled-all}
use Rattle.bases.proofs.family_by_block.Goals as goal

pub returns : goal.returns
returns c =
    let a = c.args in
    let all = filled-all _ 256 c.loop-b.b c.loop-b.out (omega arith) c.loop-b.invariant in
    repeated-family a.loss a.graph a.chosen.0 a.target _ _ c.requires.chosen_bound c.fill_block.ensures all
