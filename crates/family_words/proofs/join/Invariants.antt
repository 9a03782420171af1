-- `family_words::join` meets its contract. The invariant: the words before b have gained those of s, the others are as they were, and `fresh` is 0 exactly while no word has changed.
-- Assumes nothing.
use Rattle.family_words.proofs.Joins.{Joining}
use Rattle.family_words.proofs.join.Given as goal

abbrev pub invariant-loop-b : goal.invariant-loop-b
invariant-loop-b l = Joining l.initial.d l.s l.d l.b l.fresh
