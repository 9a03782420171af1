use mathlib.Core.Path.{refl}
use native.Mathlib.Omega.{arith}
use Rattle.report_text.specs.Rows.{pair_header}
use Rattle.report_writer.proofs.Stepping.{section-ready, score-step, scores-last}
use Rattle.report_writer.proofs.steps.step_scores.Goals as goal

pub put_score_of-requires : goal.put_score_of-requires
put_score_of-requires c = section-ready _ _ _ _ _ c.requires (omega arith)

pub returns-then-v-source-clause-step : goal.returns-then-v-source-clause-step
returns-then-v-source-clause-step c = score-step _ _ _ _ _ _ _ (omega arith) c.put_score_of.ensures.part

pub returns-clause-step : goal.returns-clause-step
unfolding pair_header
returns-clause-step c = scores-last _ _ _ _ _ _ _ _ refl (omega arith) (let r = c.requires.room in omega arith) c.put.ensures.wrote
