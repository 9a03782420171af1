-- `family_lists::put_all` meets its contract. The loop's invariant: what is left of the list, from size s on, goes from the next place on.
-- Assumes nothing.
use Prim.Native.Nat.{◌≤◌}
use Rattle.family_lists.specs.Inner.Tables.{sum_by}
use Rattle.family_lists.proofs.SetLists.{AllWriting}
use Rattle.family_lists.proofs.put_all.Given as goal

abbrev pub invariant-loop-s : goal.invariant-loop-s
invariant-loop-s l = (l.s ≤ 15) × AllWriting (sum_by l.sums.low l.sums.high) l.f l.initial.out l.out l.next l.s
