-- `pool_text::put_edges` meets its contract: one line a turn.
use Prim.Native.Nat.{◌-◌}
use lib.ListN.{length, drop}
use Rattle.sheet_format.specs.Text.{lines_of}
use Rattle.pool_text.specs.Inner.{with_digits}
use Rattle.pool_text.proofs.Rows.{EdgesLeft}
use Rattle.pool_text.proofs.put_edges.Given as goal

-- The lines from `from` on are still to be written, with the digits from the place k on.
abbrev pub invariant-loop-from : goal.invariant-loop-from
invariant-loop-from l = EdgesLeft l.s l.digits l.initial.pen (with_digits (lines_of (drop l.start l.s)) l.digits 0) l.pen l.from l.k

abbrev pub decreases-loop-from : goal.decreases-loop-from
decreases-loop-from l = length l.s - l.from
