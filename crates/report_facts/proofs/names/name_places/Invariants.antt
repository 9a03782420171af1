use Prim.Native.Nat.{◌≤◌}
use Rattle.report_facts.proofs.Places.{NamesSoFar}
use Rattle.report_facts.proofs.names.name_places.Given as goal

-- The names of the items before v have their places, and the row of item v begins at `at`.
abbrev pub invariant-loop-v : goal.invariant-loop-v
invariant-loop-v l = (l.v ≤ l.count) × NamesSoFar l.sheet l.from l.to l.v l.at
