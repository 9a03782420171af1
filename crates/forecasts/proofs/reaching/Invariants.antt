-- `forecasts::reaching` meets its contract. The invariant: the vertices found reach the target, and what a vertex needs that has been seen, has
-- been found. Each round sees one vertex more.
-- Assumes nothing.
use Prim.Native.Nat.{◌-◌, ◌^◌}
use Rattle.forecasts.proofs.Finding.{Finding}
use Rattle.forecasts.proofs.reaching.Given as goal

abbrev pub invariant-loop-seen : goal.invariant-loop-seen
invariant-loop-seen l = Finding l.graph l.target l.found.0 l.seen.0

abbrev pub decreases-loop-seen : goal.decreases-loop-seen
decreases-loop-seen l = 2 ^ 64 - l.seen.0
