use native.Mathlib.Omega.{arith}
use Rattle.report_writer.proofs.Lists.{list-ready, list-went}
use Rattle.report_writer.proofs.steps.put_list.Goals as goal

pub put_rows-requires : goal.put_rows-requires
put_rows-requires c =
    record { rows_ready = list-ready _ _ _ _ _ _ _ c.values_by-values.ensures c.requires.can_put_list; inside = let r = c.requires.room in omega arith }

pub returns-clause-rows : goal.returns-clause-rows
returns-clause-rows c =
    list-went _ _ _ _ _ _ _ c.values_by-values.ensures _ _ _ _ _ c.requires.room c.put_rows.ensures.rows
