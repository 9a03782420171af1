use Rattle.std.proofs.Common.{◌<◌, ◌^◌, arith, rules, sym, ◌∙◌}
use lib.Bits.{or_lt}
use borrow.Author.Tests.{eqb-true, eqb-false}
use Rattle.vertex_set.proofs.Sets.{none-in-zero}
use Rattle.derivations.proofs.Admits.{admits-some}
use Rattle.closures.proofs.Passes.{look-all, passing-none, passing-done, passing-next, passing-all, fewer-outside, grown-by}
use Rattle.closures.proofs.closure.Goals as goal

pub loop-graph-init : goal.loop-graph-init
loop-graph-init c =
    let a = c.args in
    let fits : a.s.0 < 2 ^ 64 = search rules in
    record {
      list = c.fill.ensures;
      small = fits;
      passing = passing-none a.loss a.graph a.s.0 _
          (look-all a.loss a.graph _ c.fill.ensures 0 a.s.0 _ fits (λ v k. absurd (admits-some a.loss _ _ none-in-zero k)) c.to_look_at-left.ensures);
    }

pub overflow_add-passes : goal.overflow_add-passes
overflow_add-passes c = let k = c.loop-graph.invariant.passing.few in record { fits = omega arith }

pub returns-then-eq : goal.returns-then-eq
returns-then-eq c =
    passing-done _ _ _ _ _ _ _ c.loop-graph.invariant.passing (grown-by _ _ _ _ _ c.admitted.ensures) (eqb-true _ _ (sym c.eq.ensures ∙ c.if-eq.true))

pub loop-graph-smaller : goal.loop-graph-smaller
loop-graph-smaller c =
    let more : c.admitted.result.0 < 2 ^ 64 = search rules in
    let fits = or_lt 64 c.loop-graph.held.0 c.admitted.result.0 c.loop-graph.invariant.small more in
    fewer-outside _ _ _ _ _ _ _ c.loop-graph.invariant.passing (grown-by _ _ _ _ _ c.admitted.ensures) fits (eqb-false _ _ (sym c.eq.ensures ∙ c.if-eq.false))

pub loop-graph-preserved : goal.loop-graph-preserved
loop-graph-preserved c =
    let a = c.args in
    let i = c.loop-graph.invariant in
    let more : c.admitted.result.0 < 2 ^ 64 = search rules in
    let fits = or_lt 64 c.loop-graph.held.0 c.admitted.result.0 c.loop-graph.invariant.small more in
    let all = passing-all a.loss a.graph a.s.0 _ _ _ _ i.passing (grown-by _ _ _ _ _ c.admitted.ensures) in
    record {
      list = i.list;
      small = fits;
      passing = passing-next _ _ _ _ _ _ _ i.passing (grown-by _ _ _ _ _ c.admitted.ensures) _ fits (eqb-false _ _ (sym c.eq.ensures ∙ c.if-eq.false))
          (look-all a.loss a.graph _ i.list c.loop-graph.held.0 _ _ fits all c.to_look_at-left-in-loop-graph.ensures);
    }
