use Prim.Native.Nat.{◌-◌}
use lib.ListN.{length}
use Rattle.sheet_edges.proofs.EdgeRows.{Loop}
use Rattle.sheet_edges.proofs.read_edges.Given as goal

-- The rows above the place `at`, at most 256, make both graphs, and the reading of all rows is that of the rows from there on.
abbrev pub invariant-loop-at : goal.invariant-loop-at
invariant-loop-at l = Loop l.s l.start l.first l.keys.low l.keys.high l.keys.count l.edges.graph l.edges.recovery l.count l.at

abbrev pub decreases-loop-at : goal.decreases-loop-at
decreases-loop-at l = length l.s - l.at
