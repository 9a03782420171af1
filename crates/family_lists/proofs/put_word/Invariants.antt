-- `family_lists::put_word` meets its contract. The loop's invariant: what is left of the list goes from the next place on.
-- Assumes nothing.
use Prim.Native.Nat.{ℕ, ◌+◌}
use lib.ListN.{get_or}
use Rattle.family_lists.proofs.Lists.{Putting}
use Rattle.family_lists.proofs.put_word.Given as goal

abbrev pub invariant-loop-i : goal.invariant-loop-i
invariant-loop-i l = Putting (λ (i : ℕ). l.base + get_or l.sums.low (l.from + i) 0) l.fn.y l.initial.out l.at l.out l.i-iterator.left l.next
