use Rattle.std.proofs.Common.{ℕ, ◌≤◌, ◌<◌, ◌≡◌, true, false}
use lib.ListN.{get_or, take}
use Rattle.setup.specs.Setup.{total, given, value_of, unused_vertex}
use Rattle.formed.specs.Inner.Parts.{VertexFits}
use Rattle.formed.proofs.vertices_fit.Given as goal

-- The vertex of each place before v fits; `initial` and `losable` count those with a start value and those with a loss value.
abbrev pub invariant-loop-v : goal.invariant-loop-v
invariant-loop-v l = record {
  fit : (k : ℕ) → k < l.v → VertexFits l.count k (get_or l.fn.vertices k unused_vertex);
  initial : l.initial' ≡ total (λ x. given (value_of false x)) (take l.v l.fn.vertices);
  losable : l.losable ≡ total (λ x. given (value_of true x)) (take l.v l.fn.vertices);
  few_initial : l.initial' ≤ l.v;
  few_losable : l.losable ≤ l.v;
}
