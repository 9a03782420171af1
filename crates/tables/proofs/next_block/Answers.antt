-- `tables::next_block` meets its contract: the block without the lowest bit of b, widened by the chosen vertex at that bit, is block b.
-- Assumes nothing.
use Rattle.derivations.specs.Both.{rule_of}
use Rattle.tables.proofs.Blocks.{block-of-table, block-quiet, block-next, below_more}
use Rattle.tables.proofs.next_block.Goals as goal

pub widen-requires : goal.widen-requires
widen-requires c =
    let a = c.args in
    let block = block-of-table (rule_of a.loss a.graph) a.chosen.0 _ _ _ _ c.without-smaller.ensures.less c.requires.table_below c.take_block.ensures in
    record { successors = c.requires.successors; quiet = block-quiet a.loss a.graph a.chosen.0 _ _ block }

pub returns : goal.returns
returns c =
    let a = c.args in
    let small = block-of-table (rule_of a.loss a.graph) a.chosen.0 _ _ _ _ c.without-smaller.ensures.less c.requires.table_below c.take_block.ensures in
    let block = block-next a.loss a.graph a.chosen.0 _ _ _ _ _ c.lowest-k.ensures.vertex.member c.without-smaller.ensures small c.widen.ensures in
    below_more (rule_of a.loss a.graph) a.chosen.0 _ _ _ _ c.requires.b_nonzero.1 c.requires.table_below block c.put_block.ensures
