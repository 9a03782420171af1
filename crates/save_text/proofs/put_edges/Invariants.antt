-- `save_text::put_edges` meets its contract: one target a turn.
use Prim.Native.Nat.{◌≤◌}
use Rattle.writing.specs.Inner.{Penned}
use Rattle.setup.specs.Setup.{rows_at}
use Rattle.save_format.specs.Inner.{texts, place_text}
use Rattle.sheet_format.specs.Names.{name_of}
use Rattle.save_text.proofs.put_edges.Given as goal

-- The rows of the targets below v stand.
abbrev pub invariant-loop-v : goal.invariant-loop-v
invariant-loop-v l = (l.v ≤ 64) × Penned l.initial.pen (texts (λ k. place_text (name_of l.names.sheet.now) k (rows_at l.graph k) (rows_at l.recovery k)) l.v) l.pen
