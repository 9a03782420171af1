-- `pool::tell` meets its contract: the call's answer is told, in one of two ways.
use mathlib.Core.List.{[]}
use mathlib.Core.Path.{refl}
use native.Mathlib.Omega.{arith}
use Rattle.questions.proofs.Refusals.{number_some}
use Rattle.pool.proofs.Telling.{row_counts, row-taken, row-behind, sheet-counts, sheet-behind, refused-behind, tells-pooled, tells-refused}
use Rattle.pool.proofs.tell.Goals as goal

pub returns-in-Ok : goal.returns-in-Ok
returns-in-Ok c =
    let call = c.in-Ok.ensures in
    let room = c.requires.longest_sheet_in_bounds in
    record {
      printed = tells-pooled _ _ _ _ _ call room [] refl;
      prefix_len = sheet-counts _ _ _ _ _ call room;
      prefix_len_2 = (omega arith, refl);
      out_unchanged = sheet-behind _ _ _ _ _ call room;
      line_unchanged = refl;
    }

pub returns-in-Err : goal.returns-in-Err
returns-in-Err c =
    let call = c.in-Err.ensures in
    let room = c.requires.longest_sheet_in_bounds in
    let w = rw c.number-number.ensures at c.put_refusal-said.ensures in
    record {
      printed = tells-refused _ _ _ _ _ call room _ (number_some _) (row-taken _ _ _ _ w);
      prefix_len = (omega arith, refl);
      prefix_len_2 = row_counts _ _ _ _ w;
      out_unchanged = refused-behind _ _ _ _ _ call room (number_some _);
      line_unchanged = row-behind _ _ _ _ w;
    }
