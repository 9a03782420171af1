use Prim.Native.Nat.{◌≤◌}
use Rattle.portal_words.specs.Words.{vertex_in}
use Rattle.portal_words.proofs.Filling.{Filled}
use Rattle.portal_words.proofs.vertices_in.Given as goal

-- There are 64 vertices, and those before v are the ones that the words say.
abbrev pub invariant-loop-v : goal.invariant-loop-v
invariant-loop-v l = (l.v ≤ 64) × Filled (vertex_in l.words) 64 l.v l.r
