-- `sheet_items::read_items` meets its contract: each turn takes in the row of one line, and each way out says why the reading of item rows stops.
-- Assumes nothing.
use Prim.Native.Nat.{◌-◌}
use lib.ListN.{length}
use Rattle.sheet_items.proofs.ItemRows.{SoFar}
use Rattle.sheet_items.proofs.read_items.Given as goal

-- The rows above the place `at` are kept and counted, and the reading of all rows is that of the rows from there on.
abbrev pub invariant-loop-items : goal.invariant-loop-items
invariant-loop-items l =
    SoFar l.s l.start l.items.vertices l.items.keys.low l.items.keys.high l.items.keys.count l.starts l.losses l.items.at

abbrev pub decreases-loop-items : goal.decreases-loop-items
decreases-loop-items l =
    length l.s - l.items.at
