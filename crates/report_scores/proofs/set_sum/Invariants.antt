-- `report_scores::set_sum` meets its contract. The loop's invariant: the sum so far, and that of the vertices still to come, make the whole.
-- Assumes nothing.
use Prim.Native.Nat.{ℕ}
use lib.ListN.{get_or}
use Rattle.report_scores.proofs.Sums.{Summing}
use Rattle.report_scores.proofs.set_sum.Given as goal

abbrev pub invariant-loop-v : goal.invariant-loop-v
invariant-loop-v l = Summing (λ (v : ℕ). get_or l.values v 0) l.fn.x l.v-iterator.left l.sum
