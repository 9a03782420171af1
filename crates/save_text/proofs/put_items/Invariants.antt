-- `save_text::put_items` meets its contract: one row a turn.
use Prim.Native.Nat.{◌≤◌}
use Rattle.writing.specs.Inner.{Penned}
use Rattle.save_format.specs.Inner.{texts, item_text}
use Rattle.sheet_format.specs.Names.{name_of}
use Rattle.save_text.proofs.put_items.Given as goal

-- The rows of the first i items stand.
abbrev pub invariant-loop-i : goal.invariant-loop-i
invariant-loop-i l = (l.i ≤ l.count) × Penned l.initial.pen (texts (item_text (name_of l.names.sheet.now) l.vertices) l.i) l.pen
