use native.Mathlib.Omega.{arith}
use Prim.Native.Nat.{◌+◌, ◌-◌}
use mathlib.Core.Path.{◌≡◌, subst, sym}
use mathlib.Core.Logic.{⊎_elim}
use Rattle.vertex_set.specs.Set.{Member}
use Rattle.vertex_set.specs.declared.VertexSet.{VertexSet}
use Rattle.attackers.proofs.Lowering.{Lowering, lowering-none, lowering-above, lowering-not, lowering-more, lowering-done}
use Rattle.attackers.proofs.lowest_of.Goals as goal
use Rattle.attackers.proofs.lowest_of.Goals.{then-has+then-not-has_weaker, else-has, else-has-via-then-has+else-not-has_weaker, else-has-via-else-has}

pub loop-t-init : goal.loop-t-init
loop-t-init c =
    let a = c.args in
    (omega arith, lowering-none (Member a.able.0))

pub loop-t-preserved : goal.loop-t-preserved
loop-t-preserved c =
    let a = c.args in (
      omega arith,
      elim c.if-has.branch [
        | then-has+then-not-has_weaker x ↦ subst (λ (s : VertexSet). Lowering (Member a.able.0) (c.loop-t.t + 1) s.0) (sym x.found-is)
            (lowering-more (Member a.able.0) c.loop-t.t c.loop-t.found.0 (omega arith) c.loop-t.invariant.1 x.insert-found.result.0
            (x.has_weaker.ensures.no x.if-not-has_weaker.true) (c.has.ensures.yes x.if-has.true) x.insert-found.ensures)
        | else-has x ↦ subst (λ (s : VertexSet). Lowering (Member a.able.0) (c.loop-t.t + 1) s.0) (sym x.found-is)
            (elim x.else-has.branch [
              | else-has-via-then-has+else-not-has_weaker w ↦ lowering-above (Member a.able.0) c.loop-t.t c.loop-t.found.0 (omega arith) c.loop-t.invariant.1
                  (w.has_weaker.ensures.yes w.if-not-has_weaker.false)
              | else-has-via-else-has w ↦ lowering-not (Member a.able.0) c.loop-t.t c.loop-t.found.0 (omega arith) c.loop-t.invariant.1 (c.has.ensures.no w.if-has.false)
            ])
      ],
    )

pub returns : goal.returns
returns c =
    let a = c.args in
    let e : c.loop-t.t ≡ 6 = omega arith in
    lowering-done (Member a.able.0) c.loop-t.found.0 (rw e at c.loop-t.invariant.1)
