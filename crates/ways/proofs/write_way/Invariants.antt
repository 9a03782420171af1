use Rattle.std.proofs.Common.{◌≡◌}
use Rattle.vertex_set.specs.Set.{Member, count_outside}
use Rattle.successors.specs.Inner.{Successors}
use Rattle.ways.specs.Inner.{Searching}
use Rattle.ways.proofs.Ways.{Writing}
use Rattle.ways.proofs.write_way.Given as goal

-- The first i steps of the way in are written, and the others lead from what is held now to the target, which is not held yet.
abbrev pub invariant-loop-v : goal.invariant-loop-v
invariant-loop-v l = record {
  list : Successors l.graph l.list;
  search : Searching l.graph l.search.held.0 l.search.ready.0 l.search.left;
  same : l.held.0 ≡ l.search.held.0;
  out : Member l.search.held.0 l.target → ⊥;
  writing : Writing l.graph l.target l.fn.set.0 l.search.held.0 l.i l.initial.vertices l.vertices l.initial.colours l.colours;
}

abbrev pub decreases-loop-v : goal.decreases-loop-v
decreases-loop-v l = count_outside 64 l.search.held.0
