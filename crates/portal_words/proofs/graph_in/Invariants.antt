use Prim.Native.Nat.{ℕ, ◌+◌, ◌*◌, ◌≤◌}
use Rattle.portal_words.specs.Words.{rows_in}
use Rattle.portal_words.proofs.Filling.{Filled}
use Rattle.portal_words.proofs.graph_in.Given as goal

-- The graph has 64 places, and the rows of those before v are the ones that the words say.
abbrev pub invariant-loop-v : goal.invariant-loop-v
invariant-loop-v l = (l.v ≤ 64) × Filled (λ (k : ℕ). rows_in l.words (l.at + 8 * k)) 64 l.v l.r.rows
