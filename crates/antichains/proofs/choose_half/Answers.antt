-- `antichains::choose_half` meets its contract, by the table's test.
-- Assumes nothing.
use native.Mathlib.Omega.{arith}
use Rattle.antichains.proofs.Ways.{ways-at}
use Rattle.antichains.proofs.choose_half.Goals as goal

pub returns : goal.returns
returns c = ways-at _ (omega arith)
