-- `families::steps_to_word` meets its contract. The loop's invariant: `lanes` has the lanes of the words numbered b less one of its bits below j.
-- Assumes nothing.
use Prim.Native.Nat.{◌≤◌}
use Rattle.families.specs.Inner.Steps.{StepsToWord}
use Rattle.families.proofs.steps_to_word.Given as goal

abbrev pub invariant-loop-j : goal.invariant-loop-j
invariant-loop-j l = (l.j ≤ 8) × StepsToWord l.f l.b l.j l.lanes
