use native.Mathlib.Omega.{arith}
use Rattle.report_writer.proofs.Stepping.{section-ready, pairs-step, pairs-last}
use Rattle.report_writer.proofs.steps.step_pairs.Goals as goal

pub put_pairs_of-requires : goal.put_pairs_of-requires
put_pairs_of-requires c = section-ready _ _ _ _ _ c.requires (omega arith)

pub returns-then-v-source-clause-step : goal.returns-then-v-source-clause-step
returns-then-v-source-clause-step c = pairs-step _ _ _ _ _ _ _ (omega arith) c.put_pairs_of.ensures.part

pub returns-clause-step : goal.returns-clause-step
returns-clause-step c = pairs-last _ _ _ _ _ (omega arith) c.requires.room
