-- `tables::fill` meets its contract. The invariant: the blocks before b are those of the table.
-- Assumes nothing.
use Rattle.derivations.specs.Both.{rule_of}
use Rattle.tables.proofs.Blocks.{Filling}
use Rattle.tables.proofs.fill.Given as goal

abbrev pub invariant-loop-b : goal.invariant-loop-b
invariant-loop-b l = Filling (rule_of l.loss l.graph) l.chosen.0 l.w l.x l.b
