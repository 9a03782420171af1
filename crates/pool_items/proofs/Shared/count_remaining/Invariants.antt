use Rattle.pool_items.proofs.Items.{CountsSoFar}
use Rattle.pool_items.proofs.Shared.count_remaining.Given as goal

-- The items before j that remain are counted.
abbrev pub invariant-loop-j : goal.invariant-loop-j
invariant-loop-j l = CountsSoFar l.vertices l.self.count l.self.places l.from l.r l.j
