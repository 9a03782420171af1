-- `family_lists::occupied_words` meets its contract. The loop's invariant: the words of index, and those from b on, have all members.
-- Assumes nothing.
use Rattle.family_lists.proofs.Lists.{Indexing}
use Rattle.family_lists.proofs.occupied_words.Given as goal

abbrev pub invariant-loop-b : goal.invariant-loop-b
invariant-loop-b l = Indexing l.f l.index l.n l.b
