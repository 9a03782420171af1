use Rattle.std.proofs.Common.{refl, arith}
use Rattle.pool_items.proofs.NameRows.{places-none, places-more, places-all}
use Rattle.pool_items.proofs.Shared.of.Goals as goal

pub loop-j-init : goal.loop-j-init
loop-j-init c = places-none _ _ _ _

pub loop-j-preserved : goal.loop-j-preserved
loop-j-preserved c =
    let few = c.args.first.now.few in
    let more = c.args.second.now.few in
    places-more _ _ _ _ _ _ _ few (omega arith) c.loop-j.invariant c.find.ensures

pub returns : goal.returns
returns c = record { count = refl; places = places-all _ _ _ _ (omega arith) c.loop-j.invariant }
