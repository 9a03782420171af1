use native.Mathlib.Omega.{arith}
use Prim.Native.Nat.{◌+◌, ◌-◌}
use mathlib.Core.Path.{◌≡◌, subst, sym}
use mathlib.Core.Logic.{⊎_elim}
use Rattle.vertex_set.specs.declared.VertexSet.{VertexSet}
use Rattle.attackers.proofs.Loops.{opens-decided}
use Rattle.attackers.proofs.Trying.{Trying, trying-none, trying-known, trying-able, trying-unable, trying-done}
use Rattle.attackers.proofs.lowest_kinds.Goals as goal
use Rattle.attackers.proofs.lowest_kinds.Goals.{else-reaches, then-reaches}

pub loop-t-init : goal.loop-t-init
loop-t-init c = (omega arith, c.fill.ensures, trying-none _ _ _ _)

pub loop-t-preserved-then-is_known : goal.loop-t-preserved-then-is_known
loop-t-preserved-then-is_known c =
    (omega arith, c.loop-t.invariant.1, trying-known _ _ _ _ _ _ _ (omega arith) c.loop-t.invariant.2 (c.is_known.ensures.yes c.if-is_known.true))

pub loop-t-preserved : goal.loop-t-preserved
loop-t-preserved c =
    let a = c.args in
    let d = opens-decided a.graph a.kinds.now a.initial.0 a.target _ _ _ c.held_by-held.ensures c.reaches.ensures in
    let n = c.loop-t.t-index in (
      omega arith,
      c.loop-t.invariant.1,
      elim c.if-reaches.branch [
        | then-reaches x ↦ subst (λ (s : VertexSet). Trying a.graph a.kinds.now a.initial.0 a.target (n + 1) s.0 c.if-reaches.unable.0) (sym x.able-is)
            (subst (λ (s : VertexSet). Trying a.graph a.kinds.now a.initial.0 a.target (n + 1) x.insert-able.result.0 s.0) (sym x.unable-is)
            (trying-able _ _ _ _ _ _ _ (omega arith) c.loop-t.invariant.2 _ (d.yes x.if-reaches.true) x.insert-able.ensures))
        | else-reaches x ↦ subst (λ (s : VertexSet). Trying a.graph a.kinds.now a.initial.0 a.target (n + 1) s.0 c.if-reaches.unable.0) (sym x.able-is)
            (subst (λ (s : VertexSet). Trying a.graph a.kinds.now a.initial.0 a.target (n + 1) c.loop-t.able.0 s.0) (sym x.unable-is)
            (trying-unable _ _ _ _ _ _ _ (omega arith) c.loop-t.invariant.2 _ (d.no x.if-reaches.false) x.insert-unable.ensures))
      ],
    )

pub returns : goal.returns
returns c =
    let a = c.args in
    let e : c.loop-t.t-index ≡ 6 = omega arith in
    trying-done a.graph a.kinds.now a.initial.0 a.target _ _ _ (rw e at c.loop-t.invariant.2) c.lowest_of.ensures
