-- `tables::beyond` meets its contract: the vertices below v, or all others.
-- Assumes nothing.
use Rattle.tables.proofs.Sweeps.{beyond-up, beyond-down}
use Rattle.tables.proofs.beyond.Goals as goal

pub returns-then-up : goal.returns-then-up
returns-then-up c = rw c.if-up.true (beyond-up c.args.v c.requires)

pub returns-else-up : goal.returns-else-up
returns-else-up c = rw c.if-up.false (beyond-down c.args.v c.requires)
