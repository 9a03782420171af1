-- `family_steps::first_of_size` meets its contract. The loop's invariant: no word before b has a member of the size, from the mask on.
-- Assumes nothing.
use Prim.Native.Nat.{◌-◌}
use Rattle.family_steps.proofs.Steps.{NoneBefore}
use Rattle.family_steps.proofs.first_of_size.Given as goal

abbrev pub invariant-loop-b : goal.invariant-loop-b
invariant-loop-b l = NoneBefore l.f l.s l.from l.b

abbrev pub decreases-loop-b : goal.decreases-loop-b
decreases-loop-b l = 256 - l.b
