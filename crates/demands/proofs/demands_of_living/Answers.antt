use Rattle.living.specs.Calls.{TakeIn, TakeOut, AddEdge, RemoveEdge}
use Rattle.demands.proofs.Calls.{settled-living}
use Rattle.demands.proofs.demands_of_living.Goals as goal

pub returns : goal.returns
returns c =
    let g = c.args in
    let p = c.take_in-taken.ensures in
    let q = c.take_out-freed.ensures in
    let r = c.add_edge-added.ensures in
    let s = c.remove_edge-removed.ensures in record {
      one = (
        settled-living (TakeIn g.item) _ _ p,
        settled-living (TakeOut g.item) _ _ q,
        settled-living (AddEdge g.from g.to g.colour g.rec) _ _ r,
        settled-living (RemoveEdge g.from g.to g.colour) _ _ s,
      );
      two = (p, q, r, s);
    }
