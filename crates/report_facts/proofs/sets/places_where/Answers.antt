use native.Mathlib.Omega.{arith}
use mathlib.Core.Bool.{true}
use Prim.Native.Nat.{◌<◌}
use mathlib.Core.Path.{◌≡◌, sym, ◌∙◌}
use Rattle.vertex_set.proofs.Cases.{false-true}
use Rattle.vertex_set.proofs.Taking.{taken_none, taken_more, taken-same}
use Rattle.report_facts.proofs.sets.places_where.Goals as goal
use Rattle.report_facts.proofs.sets.places_where.Goals.{then-test, else-test}

pub loop-v-init : goal.loop-v-init
loop-v-init g c = (omega arith, record { each = λ p d. taken_none _ })

pub loop-v-preserved : goal.loop-v-preserved
loop-v-preserved g c =
    let small : c.loop-v.v < 64 = omega arith in (
      omega arith,
      record {
        each = λ p d. elim c.if-test.branch [
          | then-test w ↦ rw w.r-is (taken_more (λ v. p v ≡ true) c.loop-v.v c.loop-v.r.0 (c.loop-v.invariant.1.each p d) w.insert-r.result.0 small (sym (d c.loop-v.v _ small c.test.ensures) ∙ w.if-test.true) w.insert-r.ensures)
          | else-test w ↦ rw w.r-is (taken-same (λ v. p v ≡ true) c.loop-v.v c.loop-v.r.0 (c.loop-v.invariant.1.each p d) (λ t. false-true (sym w.if-test.false ∙ d c.loop-v.v _ small c.test.ensures ∙ t)))
        ];
      },
    )
