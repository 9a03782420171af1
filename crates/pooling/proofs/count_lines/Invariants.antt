-- `pooling::count_lines` meets its contract: one line a turn.
use mathlib.Core.Path.{◌≡◌}
use Prim.Native.Nat.{◌+◌, ◌-◌, ◌≤◌}
use lib.ListN.{length, drop}
use Rattle.sheet_format.specs.Text.{lines_of}
use Rattle.pooling.proofs.count_lines.Given as goal

-- The lines before `at` are counted.
abbrev pub invariant-loop-at : goal.invariant-loop-at
invariant-loop-at l = (l.lines ≤ l.at) × (l.lines + length (lines_of (drop l.at l.s)) ≡ length (lines_of l.s))

abbrev pub decreases-loop-at : goal.decreases-loop-at
decreases-loop-at l = length l.s - l.at
