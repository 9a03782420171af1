-- `tables::first_block` meets its contract: lanes that start as their masks' sets and are closed.
-- Assumes nothing.
use borrow.Author.Rules.{rules}
use Rattle.tables.proofs.Blocks.{start-quiet, block-first}
use Rattle.tables.proofs.first_block.Goals as goal

pub settle-requires : goal.settle-requires
settle-requires c =
    let a = c.args in
    record { successors = c.requires; quiet = start-quiet a.loss a.graph a.chosen.0 _ _ _ (search rules) c.requires c.of_set-first.ensures c.start.ensures }

pub returns : goal.returns
returns c =
    let a = c.args in
    block-first a.loss a.graph a.chosen.0 _ _ c.start.ensures c.settle.ensures
