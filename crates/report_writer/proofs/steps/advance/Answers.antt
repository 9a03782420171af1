use mathlib.Core.Path.{refl}
use native.Mathlib.Omega.{arith}
use Rattle.report_text.specs.Rows.{list_header}
use Rattle.report_writer.proofs.Stepping.{going-at, went-at, start-can-load, start-step, section-scores, scores-went, section-pairs, pairs-went, refused-fits, refused-step, end_step}
use Rattle.report_writer.proofs.steps.advance.Goals as goal

pub load-n-requires : goal.load-n-requires
load-n-requires c = start-can-load _ _ _ _ _ c.args.pen.now.out.now c.args.pen.now.at (going-at _ _ _ _ _ _ _ c.in-Start.is c.requires.can_step)

pub returns-in-Start-clause-step : goal.returns-in-Start-clause-step
unfolding list_header
returns-in-Start-clause-step c =
    let o = c.requires.room in
    went-at _ _ _ _ _ _ _ c.in-Start.is _ _ _ _ _
    (start-step _ _ _ _ _ _ _ _ _ _ _ _ refl (omega arith) c.put.ensures.wrote c.load-n.ensures)

pub step_lists-requires : goal.step_lists-requires
step_lists-requires c = record { can_step = going-at _ _ _ _ _ _ _ c.in-Lists.is c.requires.can_step; room = c.requires.room }

pub returns-in-Lists-clause-step : goal.returns-in-Lists-clause-step
returns-in-Lists-clause-step c = went-at _ _ _ _ _ _ _ c.in-Lists.is _ _ _ _ _ c.step_lists.ensures.step

pub step_scores-requires : goal.step_scores-requires
step_scores-requires c = section-scores _ _ _ _ _ _ _ _ (going-at _ _ _ _ _ _ _ c.in-Scores.is c.requires.can_step) c.requires.room

pub returns-in-Scores-clause-step : goal.returns-in-Scores-clause-step
returns-in-Scores-clause-step c =
    let e = c.in-Scores.is in
    went-at _ _ _ _ _ _ _ e _ _ _ _ _ (scores-went _ _ _ _ _ _ _ _ _ _ (going-at _ _ _ _ _ _ _ e c.requires.can_step) c.step_scores.ensures.step)

pub step_pairs-requires : goal.step_pairs-requires
step_pairs-requires c = section-pairs _ _ _ _ _ _ _ _ (going-at _ _ _ _ _ _ _ c.in-Pairs.is c.requires.can_step) c.requires.room

pub returns-in-Pairs-clause-step : goal.returns-in-Pairs-clause-step
returns-in-Pairs-clause-step c = went-at _ _ _ _ _ _ _ c.in-Pairs.is _ _ _ _ _ (pairs-went _ _ _ _ _ _ _ _ _ _ c.step_pairs.ensures.step)

pub put_refused_row-requires : goal.put_refused_row-requires
put_refused_row-requires c = refused-fits _ _ _ _ _ c.args.pen.now.out.now _ _ _ (going-at _ _ _ _ _ _ _ c.in-Refused.is c.requires.can_step) c.requires.room

pub returns-in-Refused-clause-step : goal.returns-in-Refused-clause-step
returns-in-Refused-clause-step c =
    went-at _ _ _ _ _ _ _ c.in-Refused.is _ _ _ _ _
    (refused-step _ _ _ _ _ _ _ _ _ _ _ (refused-fits _ _ _ _ _ c.args.pen.now.out.now _ _ _ (going-at _ _ _ _ _ _ _ c.in-Refused.is c.requires.can_step) c.requires.room) c.put_refused_row.ensures.row_written)

pub returns-in-End-clause-step : goal.returns-in-End-clause-step
returns-in-End-clause-step c = went-at _ _ _ _ _ _ _ c.in-End.is _ _ _ _ _ (end_step _ _ _ _ _ _ _ c.requires.room)
