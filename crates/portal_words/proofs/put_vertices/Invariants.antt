use Prim.Native.Nat.{◌+◌, ◌*◌}
use mathlib.Core.Path.{◌≡◌}
use Rattle.portal_words.specs.Words.{vertex_words}
use Rattle.portal_words.proofs.Writing.{Put}
use Rattle.portal_words.proofs.put_vertices.Given as goal

-- The words of the vertices before the next are written, and those of the others go from `next` on.
abbrev pub invariant-loop-vertex : goal.invariant-loop-vertex
invariant-loop-vertex l = (l.next ≡ l.at + 4 * l.vertex-index) × Put vertex_words l.vertex-items l.initial.out l.at l.out l.next l.vertex-index
