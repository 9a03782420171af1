-- `multisets::count_at_least` meets its contract. The loop's invariant: n values before the next are at least t, and those from it on are not counted yet.
-- Assumes nothing.
use mathlib.Core.Path.{◌≡◌}
use Prim.Native.Nat.{◌+◌, ◌≤◌}
use lib.ListN.{length, drop}
use Rattle.multisets.specs.Meaning.{at_least}
use Rattle.multisets.proofs.count_at_least.Given as goal

abbrev pub invariant-loop-x : goal.invariant-loop-x
invariant-loop-x l = (l.x-index ≤ length l.list) × (l.n ≤ l.x-index) × (l.n + at_least (drop l.x-index l.list) l.t ≡ at_least l.list l.t)
