-- `sums::fill_sums` meets its contract. The loop's invariant: the first k sums are there; the next is an earlier one and the weight at k's lowest bit.
-- Assumes nothing.
use mathlib.Core.Path.{◌≡◌}
use lib.ListN.{length}
use Rattle.sums.proofs.Weights.{Filling}
use Rattle.sums.proofs.fill_sums.Given as goal

abbrev pub invariant-loop-k : goal.invariant-loop-k
invariant-loop-k l = (length l.table ≡ 128) × Filling l.weights l.from l.k l.table
