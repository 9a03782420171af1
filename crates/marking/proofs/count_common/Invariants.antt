use mathlib.Core.Path.{◌≡◌}
use Prim.Native.Nat.{◌+◌, ◌*◌, ◌≤◌}
use lib.ListN.{drop}
use Rattle.families.specs.Inner.Family.{size}
use Rattle.marking.specs.Inner.Counting.{meet}
use Rattle.marking.proofs.count_common.Given as goal

-- n, at most 64 for each word before b, and the common masks of the words from b on make all common masks.
abbrev pub invariant-loop-b : goal.invariant-loop-b
invariant-loop-b l = (l.n ≤ 64 * l.b) × (l.n + size (drop l.b (meet l.f l.g)) ≡ size (meet l.f l.g))
