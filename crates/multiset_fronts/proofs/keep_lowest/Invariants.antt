use mathlib.Core.Path.{◌≡◌}
use Prim.Native.Nat.{◌≤◌}
use lib.ListN.{length}
use Rattle.family_lists.specs.Inner.Tables.{sum_by}
use Rattle.multiset_fronts.specs.Inner.{firsts, seconds}
use Rattle.multiset_fronts.proofs.Keeping.{Keeping}
use Rattle.multiset_fronts.proofs.keep_lowest.Given as goal

-- Of the first i masks of the list, those of the lowest sets stand with their keys at the first places, and the others from i on where they stood.
abbrev pub invariant-loop-i : goal.invariant-loop-i
invariant-loop-i l =
    (l.i ≤ l.n) × (length l.list ≡ length l.initial.list) × (length l.keys ≡ 3432) × Keeping l.initial.list (sum_by l.firsts.low l.firsts.high) (sum_by l.seconds.low l.seconds.high) l.i l.list (firsts l.keys) (seconds l.keys) l.count
