-- `families::mask_of` meets its contract. The loop's invariant: the bits gathered, and those of the chosen vertices still to come, make the mask.
-- Assumes nothing.
use Prim.Native.Nat.{◌≤◌}
use Rattle.families.proofs.Masks.{Gathering}
use Rattle.families.proofs.mask_of.Given as goal

abbrev pub invariant-loop-v : goal.invariant-loop-v
invariant-loop-v l = (l.n ≤ 14) × Gathering l.fn.chosen.0 l.x l.v-iterator.left l.mask l.n
