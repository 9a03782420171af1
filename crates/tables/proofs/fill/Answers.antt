use Rattle.derivations.specs.Both.{rule_of}
use native.Mathlib.Omega.{arith}
use Rattle.tables.proofs.Blocks.{below_none, below_more, below_all}
use Rattle.tables.proofs.fill.Goals as goal

pub loop-b-init : goal.loop-b-init
loop-b-init c =
    let a = c.args in
    record {
      place = (omega arith, omega arith);
      room = c.first_block.ensures.words;
      table = below_more (rule_of a.loss a.graph) a.chosen.0 _ _ _ _ (omega arith) (below_none (rule_of a.loss a.graph) a.chosen.0 _ c.requires) c.first_block.ensures c.put_block.ensures;
    }

pub returns : goal.returns
returns c =
    let a = c.args in
    let t = c.loop-b.invariant.table in
    record { w_len = t.words; table = below_all (rule_of a.loss a.graph) a.chosen.0 _ _ c.loop-b-test.false t }
