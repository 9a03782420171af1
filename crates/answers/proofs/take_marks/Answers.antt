use native.Mathlib.Nat.{lt_of_lt_of_le}
use Rattle.answers.proofs.Marking.{counted-marks}
use borrow.Author.Rules.{rules}
use Rattle.answers.proofs.take_marks.Goals as goal

pub both_families-total-requires : goal.both_families-total-requires
both_families-total-requires c =
    let p = c.requires in
    record { formed = p.formed; vertex = lt_of_lt_of_le p.vertex p.formed.most; is_chosen = c.chosen-chosen.ensures }

pub mark_all-t-requires : goal.mark_all-t-requires
mark_all-t-requires c =
    let f = c.both_families-total.ensures in
    record { few = f.base.few; is_minimal = f.is_minimal }

pub returns : goal.returns
returns c =
    let a = c.args in
    counted-marks a.loss a.s a.target c.chosen-chosen.result.0 _ _ a.handed.now c.both_families-total.result _ c.chosen-chosen.type_inv.1.1.0.1 c.chosen-chosen.ensures c.both_families-total.ensures c.mark_all-t.ensures c.saturating_sub-missing.ensures
