use Rattle.std.proofs.Common.{◌≡◌, length, true, false, arith, rules, below_more}
use Rattle.setup.specs.Setup.{given, value_of, unused_vertex}
use Rattle.setup.proofs.Counts.{total-more}
use Rattle.formed.proofs.vertices_fit.Goals as goal

pub loop-v-preserved : goal.loop-v-preserved
loop-v-preserved c =
    let l = c.loop-v in
    let xs = c.args.vertices in
    let long : length xs ≡ 64 = search rules in
    let i = total-more (λ x. given (value_of false x)) xs l.v unused_vertex (omega arith) in
    let o = total-more (λ x. given (value_of true x)) xs l.v unused_vertex (omega arith) in
    let p = c.count_given-initial.ensures in
    let q = c.count_given-losable.ensures in
    record {
      fit = below_more _ l.v l.invariant.fit (c.vertex_fits.ensures.yes c.if-not-vertex_fits.false);
      initial = omega (arith, p.0, l.invariant.initial);
      losable = omega (arith, q.0, l.invariant.losable);
      few_initial = omega (arith, p.1);
      few_losable = omega (arith, q.1);
    }
