-- `family_steps::set_of` meets its contract. The loop's invariant: the set gathered, and that of the bits still to come, make the mask's set.
-- Assumes nothing.
use Rattle.family_steps.proofs.Spreading.{Spreading}
use Rattle.family_steps.proofs.set_of.Given as goal

abbrev pub invariant-loop-v : goal.invariant-loop-v
invariant-loop-v l = Spreading l.fn.chosen.0 l.mask l.v-iterator.left l.bits l.set
