-- `pool_text::put_remaining` meets its contract: one row a turn.
use Prim.Native.Nat.{◌≤◌}
use Rattle.writing.specs.Inner.{Penned}
use Rattle.pool_text.specs.Inner.{fresh_rows}
use Rattle.pool_text.proofs.put_remaining.Given as goal

-- Of the rows before j those that are asked for stand.
abbrev pub invariant-loop-j : goal.invariant-loop-j
invariant-loop-j l = Penned l.initial.pen (fresh_rows l.s l.from l.shared.places l.j) l.pen
