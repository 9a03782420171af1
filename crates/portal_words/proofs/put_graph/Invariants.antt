use Prim.Native.Nat.{◌+◌, ◌*◌}
use mathlib.Core.Path.{◌≡◌}
use Rattle.portal_words.specs.Words.{needs_of}
use Rattle.portal_words.proofs.Writing.{Put}
use Rattle.portal_words.proofs.put_graph.Given as goal

-- The rows of the vertices before the next are written, and those of the others go from `next` on.
abbrev pub invariant-loop-rows : goal.invariant-loop-rows
invariant-loop-rows l = (l.next ≡ l.at + 8 * l.rows-index) × Put needs_of l.rows-items l.initial.out l.at l.out l.next l.rows-index
