-- `pool_colours::colours_of` meets its contract: one edge row a turn.
use Prim.Native.Nat.{◌-◌, ◌≤◌}
use lib.ListN.{length}
use Rattle.pool_colours.proofs.Edges.{ColoursSoFar}
use Rattle.pool_colours.proofs.colours_of.Given as goal

-- The rows before `edges` have their digits, and the line of the next one begins at `at`.
abbrev pub invariant-loop-at : goal.invariant-loop-at
invariant-loop-at l = (l.edges ≤ 256) × ColoursSoFar l.s l.start l.keys.low l.keys.high l.keys.count l.shared.places l.first l.second l.digits l.edges l.at

abbrev pub decreases-loop-at : goal.decreases-loop-at
decreases-loop-at l = length l.s - l.at
