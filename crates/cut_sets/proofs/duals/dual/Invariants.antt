-- `cut_sets::duals::dual` meets its contract. The invariant: the words before b are those of the dual.
-- Assumes nothing.
use Prim.Native.Nat.{◌-◌, ◌≤◌}
use Rattle.cut_sets.proofs.Turning.{DualBelow}
use Rattle.cut_sets.proofs.duals.dual.Given as goal

abbrev pub invariant-loop-b : goal.invariant-loop-b
invariant-loop-b l = (l.b ≤ 256) × DualBelow l.f l.out l.b
