use Rattle.pool_items.proofs.NameRows.{PlacesSoFar}
use Rattle.pool_items.proofs.Shared.of.Given as goal

-- The items before j have their places.
abbrev pub invariant-loop-j : goal.invariant-loop-j
invariant-loop-j l = PlacesSoFar l.first.low l.first.high l.first.count l.second l.places l.j
