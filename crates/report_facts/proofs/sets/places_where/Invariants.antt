use Prim.Native.Nat.{◌≤◌}
use Rattle.report_facts.specs.Inner.Sets.{PlacesBy}
use Rattle.report_facts.proofs.sets.places_where.Given as goal

-- r is the set of the vertices before v that pass the test.
abbrev pub invariant-loop-v : goal.invariant-loop-v
invariant-loop-v g l = (l.v ≤ 64) × PlacesBy (goal.F-post g l.test) l.v l.r.0
