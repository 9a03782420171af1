use mathlib.Core.Path.{◌≡◌}
use Prim.Native.Nat.{◌≤◌}
use lib.ListN.{length, take}
use Rattle.marking.specs.Inner.Counting.{Seen}
use Rattle.marking.proofs.see_all.Given as goal

-- The table has just the masks of the first i handed-in sets, as far as these are sets of chosen vertices.
abbrev pub invariant-loop-i : goal.invariant-loop-i
invariant-loop-i l = (l.i ≤ l.i-end) × (l.i-end ≡ length l.handed) × Seen l.chosen.0 (take l.i l.handed) l.seen
