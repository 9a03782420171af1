use mathlib.Core.Path.{sym, subst}
use Prim.Native.Nat.{◌+◌}
use Rattle.std.proofs.Common.{arith, rules}
use Rattle.vertex_set.specs.declared.VertexSet.{VertexSet}
use Rattle.pool_colours.proofs.Renaming.{UsedBelow, used-none, used-more, used-same, used_all}
use Rattle.pool_colours.proofs.used_colours.Goals as goal
use Rattle.pool_colours.proofs.used_colours.Goals.{else-row-ne0, then-row-ne0}

pub loop-c-init : goal.loop-c-init
loop-c-init c = used-none c.args.rows.now

pub loop-c-preserved : goal.loop-c-preserved
loop-c-preserved c =
    let rows = c.args.rows.now in
    elim c.if-row-ne0.branch [
      | then-row-ne0 w ↦ subst (λ (x : VertexSet). UsedBelow rows (c.loop-c.c + 1) x.0) (sym w.r-is)
          (used-more rows c.loop-c.c c.loop-c.r.0 w.insert-r.result.0 c.loop-c-test.true c.loop-c.invariant w.if-row-ne0.true w.insert-r.ensures)
      | else-row-ne0 w ↦ subst (λ (x : VertexSet). UsedBelow rows (c.loop-c.c + 1) x.0) (sym w.r-is)
          (used-same rows c.loop-c.c c.loop-c.r.0 c.loop-c.invariant w.if-row-ne0.false)
    ]

pub returns : goal.returns
returns c = used_all _ _ _ (search rules) (omega arith) c.loop-c.invariant
