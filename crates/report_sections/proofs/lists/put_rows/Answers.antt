use mathlib.Core.Path.{◌∙◌}
use native.Mathlib.Omega.{arith}
use Rattle.report_sections.proofs.Rows.{row_fits, rows_more}
use Rattle.report_sections.proofs.lists.put_rows.Goals as goal

pub put-requires : goal.put-requires
put-requires c =
    let l = c.loop-row in
    let h = c.requires.rows_ready in
    record { target = h.name; items = (h.sets l.row (omega arith)).names; room = row_fits _ _ _ _ _ _ _ _ _ _ h (omega arith) _ _ _ c.set_sum.ensures (omega arith) (omega arith) }

pub loop-row-preserved : goal.loop-row-preserved
loop-row-preserved c =
    let l = c.loop-row in
    let h = c.requires.rows_ready in (
      c.put.ensures.same ∙ l.invariant.0,
      rows_more _ _ _ _ _ _ _ _ _ _ _ _ l.invariant.1 (omega arith) h.here _ _ _ c.set_sum.ensures
          (row_fits _ _ _ _ _ _ _ _ _ _ h (omega arith) _ _ _ c.set_sum.ensures (omega arith) (omega arith)) c.put.ensures.row_written,
    )
