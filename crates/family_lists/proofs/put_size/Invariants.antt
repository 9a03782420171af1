-- `family_lists::put_size` meets its contract. The loop's invariant: what is left of the list, from the next number on, goes from the next place on.
-- Assumes nothing.
use Rattle.family_lists.specs.Inner.Tables.{sum_by}
use Rattle.family_lists.proofs.Lists.{SizeWriting}
use Rattle.family_lists.proofs.put_size.Given as goal

abbrev pub invariant-loop-b : goal.invariant-loop-b
invariant-loop-b l = SizeWriting (sum_by l.sums.low l.sums.high) l.s l.f l.occupied l.initial.out l.at l.out l.next l.b-index
