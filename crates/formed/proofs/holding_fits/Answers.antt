use Rattle.std.proofs.Common.{◌<◌, ◌^◌, rules, sym, subst, ◌∙◌}
use borrow.Author.Tests.{eqb-true}
use Rattle.vertex_set.specs.Set.{Decides}
use Rattle.vertex_set.proofs.Decisions.{decide-no}
use Rattle.formed.specs.Inner.Parts.{HoldingFits}
use Rattle.formed.proofs.Holding.{holding-none, holding-some, holding-outside}
use Rattle.formed.proofs.holding_fits.Goals as goal

pub returns-then-eq : goal.returns-then-eq
returns-then-eq c =
    let a = c.args in
    subst (Decides (HoldingFits a.count a.graph a.held.0 a.opened.0)) (sym c.eq-then-eq.ensures)
    (holding-none a.count a.graph a.held.0 a.opened.0 (eqb-true _ _ (sym c.eq.ensures ∙ c.if-eq.true)))

pub returns-then-within : goal.returns-then-within
returns-then-within c =
    let a = c.args in
    subst (Decides (HoldingFits a.count a.graph a.held.0 a.opened.0)) (sym c.eq-then-within.ensures)
    (holding-some a.count a.graph a.held.0 a.opened.0 c.below.result.0 c.closure.result.passes c.closure.result.set.0
    c.below.ensures (c.within.ensures.yes c.if-within.true) c.closure.ensures)

pub returns-else-within : goal.returns-else-within
returns-else-within c =
    let a = c.args in
    let fits : a.held.0 < 2 ^ 64 = search rules in
    subst (Decides (HoldingFits a.count a.graph a.held.0 a.opened.0)) (sym c.if-within.false)
    (decide-no (holding-outside a.count a.graph a.held.0 a.opened.0 c.below.result.0 fits c.below.ensures (c.within.ensures.no c.if-within.false)))
