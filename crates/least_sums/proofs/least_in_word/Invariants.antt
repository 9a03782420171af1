-- `least_sums::least_in_word` meets its contract. The loop's invariant: the least so far, with the lanes still to come, is the least of all.
-- Assumes nothing.
use Prim.Native.Nat.{ℕ, ◌+◌}
use lib.ListN.{get_or}
use Rattle.least_sums.proofs.Least.{Seeking}
use Rattle.least_sums.proofs.least_in_word.Given as goal

abbrev pub invariant-loop-i : goal.invariant-loop-i
invariant-loop-i l = Seeking (λ (i : ℕ). l.base + get_or l.sums.low (l.from + i) 0) l.fn.y l.fn.best l.i-iterator.left l.least
