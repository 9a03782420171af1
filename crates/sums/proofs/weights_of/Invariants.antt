-- `sums::weights_of` meets its contract. The loop's invariant: the first n places have the values of the chosen vertices passed, the others 0.
-- Assumes nothing.
use Prim.Native.Nat.{ℕ, ◌≤◌}
use lib.ListN.{get_or}
use Rattle.sums.proofs.Weights.{Weighing}
use Rattle.sums.proofs.weights_of.Given as goal

abbrev pub invariant-loop-v : goal.invariant-loop-v
invariant-loop-v l = (l.n ≤ 14) × Weighing l.fn.chosen.0 (λ (v : ℕ). get_or l.values v 0) l.v-iterator.left l.n l.weights
