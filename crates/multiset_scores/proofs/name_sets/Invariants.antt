-- The loop's invariant: the sets of the masks before the next one stand in their places, and from there on the masks.
-- Assumes nothing.
use Rattle.multiset_scores.proofs.Finding.{Naming}
use Rattle.multiset_scores.proofs.name_sets.Given as goal

abbrev pub invariant-loop-mask : goal.invariant-loop-mask
invariant-loop-mask l = Naming l.fn.initial.0 l.initial.mask-items l.mask-index l.mask-items
