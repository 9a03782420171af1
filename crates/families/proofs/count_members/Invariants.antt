-- `families::count_members` meets its contract. The loop's invariant: what is counted and the members of the words still to come make the family's size.
-- Assumes nothing.
use mathlib.Core.Path.{◌≡◌}
use Prim.Native.Nat.{◌+◌, ◌*◌, ◌≤◌}
use lib.ListN.{drop}
use Rattle.families.specs.Inner.Family.{size}
use Rattle.families.proofs.count_members.Given as goal

abbrev pub invariant-loop-x : goal.invariant-loop-x
invariant-loop-x l = (l.n ≤ 64 * l.x-index) × (l.n + size (drop l.x-index l.f) ≡ size l.f)
