use borrow.Author.Rules.{rules}
use Prim.Native.Nat.{◌-◌}
use mathlib.Core.Path.{◌≡◌, refl}
use mathlib.Core.List.{[]}
use native.Mathlib.Omega.{arith}
use lib.Count.{ones}
use lib.ListN.{length}
use lib.Seq.{take_all}
use Rattle.setup.specs.Setup.{total, edge_count}
use Rattle.setup.proofs.Counts.{total-more}
use Rattle.living.proofs.edge_count.Goals as goal

pub loop-rows-init : goal.loop-rows-init
loop-rows-init c = (refl, search rules)

pub loop-rows-preserved : goal.loop-rows-preserved
loop-rows-preserved c =
    let l = c.loop-rows in
    let graph = c.args.graph in
    let long : length graph.rows ≡ 64 = c.well_formed.0.1.1.0.1.0.1 in
    let m = total-more (λ r. total ones r.needs) graph.rows l.rows-index (record { needs = [] }) (omega arith) in
    let p = c.row_sizes-edges.ensures.0 in
    let q = c.row_sizes-edges.ensures.1 in
    (omega arith, omega arith)

pub returns : goal.returns
unfolding edge_count
returns c =
    let l = c.loop-rows in
    let e : l.rows-index ≡ 64 = omega arith in
    let long : length c.args.graph.rows ≡ 64 = c.well_formed.0.1.1.0.1.0.1 in
    let i = rw (e, take_all 64 c.args.graph.rows (omega arith)) at l.invariant.0 in
    (i, omega arith)
