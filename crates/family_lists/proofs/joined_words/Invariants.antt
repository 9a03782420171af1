-- `family_lists::joined_words` meets its contract. The loop's invariant: the words with the numbers gone through are joined.
-- Assumes nothing.
use mathlib.Core.Path.{◌≡◌}
use lib.ListN.{length, take}
use Rattle.family_lists.proofs.Sizes.{Joining}
use Rattle.family_lists.proofs.joined_words.Given as goal

abbrev pub invariant-loop-b : goal.invariant-loop-b
invariant-loop-b l = (length l.joined ≡ 9) × Joining l.f (take l.b-index l.occupied) l.joined
