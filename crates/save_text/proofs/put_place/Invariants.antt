-- `save_text::put_place` meets its contract: one colour a turn.
use Prim.Native.Nat.{◌≤◌}
use Rattle.writing.specs.Inner.{Penned}
use Rattle.setup.specs.Setup.{row_of}
use Rattle.save_format.specs.Inner.{texts, row_text}
use Rattle.sheet_format.specs.Names.{name_of}
use Rattle.save_text.proofs.put_place.Given as goal

-- The rows of the colours below c stand.
abbrev pub invariant-loop-c : goal.invariant-loop-c
invariant-loop-c l = (l.c ≤ 8) × Penned l.initial.pen (texts (λ k. row_text (name_of l.names.sheet.now) l.to k (row_of l.rows k) (row_of l.marked k)) l.c) l.pen
