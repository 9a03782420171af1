-- `tables::settle` meets its contract. The invariant: each lane lies between its start and what is derivable from there, and a vertex
-- that is not in todo has nothing new in any lane. Either the words have less room to grow, or todo is smaller.
-- Assumes nothing.
use Prim.Native.Nat.{◌+◌, ◌*◌, ◌^◌}
use Rattle.family_words.specs.Inner.Words.{room}
use Rattle.tables.proofs.Settling.{Settling}
use Rattle.tables.proofs.settle.Given as goal

abbrev pub invariant-loop-todo : goal.invariant-loop-todo
invariant-loop-todo l = Settling l.loss l.graph l.list l.initial.w l.w l.todo

abbrev pub decreases-loop-todo : goal.decreases-loop-todo
decreases-loop-todo l = room l.w * 2 ^ 64 + l.todo
