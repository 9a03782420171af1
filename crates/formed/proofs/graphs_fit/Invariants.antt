use Rattle.std.proofs.Common.{ℕ, ◌*◌, ◌≤◌, ◌<◌, ◌≡◌}
use lib.Count.{ones}
use lib.ListN.{take}
use Rattle.setup.specs.Setup.{total, rows_at}
use Rattle.formed.specs.Inner.Parts.{EdgesFit}
use Rattle.formed.proofs.graphs_fit.Given as goal

-- The rows of each place before v fit; `edges` is how many edges they have, at most 512 for each place.
abbrev pub invariant-loop-v : goal.invariant-loop-v
invariant-loop-v l = record {
  fit : (k : ℕ) → k < l.v → EdgesFit l.count k (rows_at l.fn.graph k) (rows_at l.fn.recovery k);
  count : l.edges ≡ total (λ r. total ones r.needs) (take l.v l.fn.graph.rows);
  few : l.edges ≤ 512 * l.v;
}
