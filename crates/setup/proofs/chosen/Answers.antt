use Rattle.std.proofs.Common.{arith, rules, ◌≡◌, ◌≤◌, ◌+◌, length, sym, subst, ap, ◌∙◌}
use Rattle.vertex_set.specs.declared.VertexSet.{VertexSet}
use Rattle.setup.specs.Setup.{given, value_of, vertex_at}
use Rattle.setup.proofs.Counts.{ChosenBelow, chosen_none, chosen_more, chosen-same, chosen-all}
use Rattle.setup.proofs.chosen.Goals as goal
use Rattle.setup.proofs.chosen.Goals.{else-is_given, then-is_given}

pub loop-v-init : goal.loop-v-init
loop-v-init c = chosen_none _ _

pub loop-v-preserved : goal.loop-v-preserved
loop-v-preserved c =
    let a = c.args in
    let long : length a.s.vertices ≡ 64 = search rules in
    let counted : c.count_given-is_given.result ≡ given (value_of a.loss (vertex_at a.s c.loop-v.v)) = c.count_given-is_given.ensures.0 ∙ ap given c.value_of.ensures in
    let most : c.count_given-is_given.result ≤ 1 = c.count_given-is_given.ensures.1 in
    elim c.if-is_given.branch [
      | then-is_given w ↦ subst (λ (x : VertexSet). ChosenBelow a.loss a.s (c.loop-v.v + 1) x.0) (sym w.r-is)
          (chosen_more a.loss a.s c.loop-v.v c.loop-v.r.0 c.loop-v-test.true long c.loop-v.invariant w.insert-r.result.0
          (let t = w.if-is_given.true in omega arith) w.insert-r.ensures)
      | else-is_given w ↦ subst (λ (x : VertexSet). ChosenBelow a.loss a.s (c.loop-v.v + 1) x.0) (sym w.r-is)
          (let z : given (value_of a.loss (vertex_at a.s c.loop-v.v)) ≡ 0 = let t = w.if-is_given.false in omega arith in
          chosen-same a.loss a.s c.loop-v.v c.loop-v.r.0 c.loop-v-test.true long c.loop-v.invariant (λ e. omega arith) z)
    ]

pub returns : goal.returns
returns c =
    let a = c.args in
    let e : c.loop-v.v ≡ 64 = omega arith in
    chosen-all a.loss a.s c.loop-v.r.0 (search rules) (rw e at c.loop-v.invariant)
