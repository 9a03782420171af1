use mathlib.Core.Path.{refl}
use native.Mathlib.Omega.{arith}
use Rattle.report_text.specs.Rows.{score_header}
use Rattle.report_writer.proofs.Stepping.{rows_step, next-can-load, next-step, header-step}
use Rattle.report_writer.proofs.steps.step_lists.Goals as goal

pub returns-then-i-n-clause-step : goal.returns-then-i-n-clause-step
returns-then-i-n-clause-step c = rows_step _ _ _ _ _ _ _ _ _ _ _ _ _ (omega arith) c.put_list-row.ensures.rows

pub load-m-requires : goal.load-m-requires
load-m-requires c = next-can-load _ _ _ _ _ _ _ _ c.args.pen.now.out.now c.args.pen.now.at c.requires.can_step (omega arith)

pub returns-then-next-source-clause-step : goal.returns-then-next-source-clause-step
returns-then-next-source-clause-step c = next-step _ _ _ _ _ _ _ _ _ _ _ _ c.if-i-n.false c.if-next-source.true c.requires.room c.load-m.ensures

pub returns-clause-step : goal.returns-clause-step
unfolding score_header
returns-clause-step c = header-step _ _ _ _ _ _ _ _ _ _ _ _ _ refl c.requires.can_step (omega arith) (omega arith) (let r = c.requires.room in omega arith) c.put.ensures.wrote
