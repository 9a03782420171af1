use Prim.Native.Nat.{◌≤◌}
use Rattle.portal_words.proofs.Strict.{KindsTo}
use Rattle.portal_words.proofs.kinds_said.Given as goal

-- The kinds of the places before v are 0 or 1.
abbrev pub invariant-loop-v : goal.invariant-loop-v
invariant-loop-v l = (l.v ≤ 64) × KindsTo l.words l.v
