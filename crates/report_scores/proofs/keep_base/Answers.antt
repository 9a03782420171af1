-- `report_scores::keep_base` meets its contract: the target's part of the table has 256 words, and so has what is put there.
-- Assumes nothing.
use Prim.Native.Nat.{◌+◌, ◌-◌, ◌*◌}
use native.Mathlib.Omega.{arith}
use Rattle.report_scores.proofs.Reading.{kept_at}
use borrow.Author.Rules.{rules}
use Rattle.report_scores.proofs.keep_base.Goals as goal

pub returns : goal.returns
returns c =
    let a = c.args in
    let v = a.target in
    kept_at a.w.now _ v (v * 256 + 256 - v * 256) c.requires.w_len c.requires.target_bound (omega arith) (search rules)
    a.sums.now.low a.sums.now.high c.words_of.result.now c.least_by.result c.keep_minimal.ensures c.words_of.ensures c.least_by.ensures
