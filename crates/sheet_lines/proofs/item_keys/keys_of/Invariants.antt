-- `sheet_lines::item_keys::keys_of` meets its contract: one line below the header is one item.
use mathlib.Core.Path.{◌≡◌}
use Rattle.sheet_lines.proofs.Keys.{KeysSoFar}
use Rattle.sheet_lines.proofs.item_keys.keys_of.Given as goal

-- The items before v have their keys, and the row of item v begins at `at`.
abbrev pub invariant-loop-v : goal.invariant-loop-v
invariant-loop-v l = (l.keys.count ≡ l.v) × KeysSoFar l.s l.keys.low l.keys.high l.from l.v l.at
