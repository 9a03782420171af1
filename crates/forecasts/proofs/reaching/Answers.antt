use Prim.Native.Nat.{◌-◌}
use borrow.Author.Rules.{rules}
use Rattle.forecasts.proofs.Finding.{finding-none, unseen, finding-more, finding-done, was-found, seen-grows}
use Rattle.forecasts.proofs.reaching.Goals as goal

pub loop-seen-init : goal.loop-seen-init
loop-seen-init c = finding-none _ _ _ c.requires c.insert-found.ensures

pub lowest-v-requires : goal.lowest-v-requires
lowest-v-requires c =
    let l = c.loop-seen in
    unseen _ _ l.found.0 l.seen.0 l.invariant (search rules) (search rules) c.loop-seen-test.true

pub loop-seen-smaller : goal.loop-seen-smaller
loop-seen-smaller c =
    let l = c.loop-seen in
    seen-grows l.found.0 l.seen.0 _ (search rules) c.lowest-v.ensures.vertex _ c.insert-seen.ensures (search rules)

pub loop-seen-preserved : goal.loop-seen-preserved
loop-seen-preserved c =
    let l = c.loop-seen in
    finding-more _ _ l.found.0 l.seen.0 l.invariant _ _ _ c.lowest-v.ensures.vertex.place
    (was-found l.found.0 l.seen.0 _ (search rules) c.lowest-v.ensures.vertex) c.needed.ensures c.insert-seen.ensures

pub returns : goal.returns
returns c = finding-done _ _ _ _ c.loop-seen.invariant c.loop-seen-test.false
