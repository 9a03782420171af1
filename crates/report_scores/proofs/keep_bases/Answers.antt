use native.Mathlib.Omega.{arith}
use Rattle.report_scores.proofs.Reading.{kept_more}
use Rattle.report_scores.proofs.keep_bases.Goals as goal

pub loop-v-preserved : goal.loop-v-preserved
loop-v-preserved c =
    kept_more _ _ _ c.loop-v.w c.loop-v.out _ c.loop-v.v c.keep_base.result (omega arith) c.loop-v.invariant c.keep_base.ensures
