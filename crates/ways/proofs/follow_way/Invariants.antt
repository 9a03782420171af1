use Rattle.vertex_set.specs.Set.{Member, count_outside}
use Rattle.successors.specs.Inner.{Successors}
use Rattle.ways.specs.Inner.{Searching}
use Rattle.ways.proofs.Ways.{Taken}
use Rattle.ways.proofs.follow_way.Given as goal

-- `count` steps are taken, which with every way on from what is held now make a way from the set; the target is not held yet.
abbrev pub invariant-loop-v : goal.invariant-loop-v
invariant-loop-v l = record {
  list : Successors l.graph l.list;
  search : Searching l.graph l.search.held.0 l.search.ready.0 l.search.left;
  out : Member l.search.held.0 l.target → ⊥;
  taken : Taken l.graph l.target l.fn.set.0 l.search.held.0 l.count;
}

abbrev pub decreases-loop-v : goal.decreases-loop-v
decreases-loop-v l = count_outside 64 l.search.held.0
