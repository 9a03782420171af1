use Rattle.std.proofs.Common.{◌≡◌, length, [], arith, rules, below_more}
use lib.Count.{ones}
use Rattle.vertex_set.proofs.Decisions.{decide-no}
use Rattle.setup.specs.Setup.{total}
use Rattle.setup.proofs.Counts.{total-more}
use Rattle.formed.proofs.Edges.{graphs-by-edges}
use Rattle.formed.proofs.graphs_fit.Goals as goal

pub returns-then-not-edges_fit : goal.returns-then-not-edges_fit
returns-then-not-edges_fit c = decide-no (λ h. c.edges_fit.ensures.no c.if-not-edges_fit.true (h.each c.loop-v.v c.loop-v-test.true))

pub loop-v-preserved : goal.loop-v-preserved
loop-v-preserved c =
    let l = c.loop-v in
    let rows = c.args.graph.rows in
    let long : length rows ≡ 64 = search rules in
    let m = total-more (λ r. total ones r.needs) rows l.v (record { needs = [] }) (omega arith) in
    let p = c.row_sizes-edges.ensures in
    record {
      fit = below_more _ l.v l.invariant.fit (c.edges_fit.ensures.yes c.if-not-edges_fit.false);
      count = omega (arith, p.0, l.invariant.count);
      few = omega (arith, p.1);
    }

pub returns : goal.returns
returns c =
    let a = c.args in
    let l = c.loop-v in
    graphs-by-edges a.count a.graph a.recovery l.v l.edges (search rules) (omega arith) l.invariant.fit l.invariant.count
