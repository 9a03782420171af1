-- `save_text::EdgesInto::put_row` meets its contract: one source a turn.
use Prim.Native.Nat.{◌≤◌}
use Rattle.writing.specs.Inner.{Penned}
use Rattle.save_format.specs.Inner.{texts, edge_text}
use Rattle.sheet_format.specs.Names.{name_of}
use Rattle.save_text.proofs.EdgesInto.put_row.Given as goal

-- The rows of the sources below f stand.
abbrev pub invariant-loop-f : goal.invariant-loop-f
invariant-loop-f l = (l.f ≤ 64) × Penned l.initial.pen (texts (edge_text (name_of l.self.names.sheet.now) l.self.to l.self.colour l.needs l.marked) l.f) l.pen
