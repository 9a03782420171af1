-- `multiset_scores::write_score` meets its contract: the count is known before a place is written.
-- Assumes nothing.
use mathlib.Core.Logic.{inl, inr}
use native.Mathlib.Omega.{arith}
use borrow.Author.Rules.{rules}
use Rattle.multiset_scores.proofs.Calls.{bags-short, count, rows_fit, bags-room}
use Rattle.multiset_scores.proofs.write_score.Goals as goal

pub returns-then-lengths-n : goal.returns-then-lengths-n
returns-then-lengths-n c =
    let a = c.args in
    bags-short a.s a.target a.places.now a.lengths.now _ c.find_score-n.result c.find_score-n.ensures (inr c.if-lengths-n.true)

pub overflow_mul-n : goal.overflow_mul-n
overflow_mul-n c =
    let m = c.find_score-n.ensures.most in search rules

pub returns-then-places-n : goal.returns-then-places-n
returns-then-places-n c =
    let a = c.args in
    bags-short a.s a.target a.places.now a.lengths.now _ c.find_score-n.result c.find_score-n.ensures (inl c.if-places-n.true)

pub write_rows-requires : goal.write_rows-requires
write_rows-requires c =
    let a = c.args in
    rows_fit a.s a.target a.places.now a.lengths.now _ c.find_score-n.result c.find_score-n.ensures c.if-places-n.false

pub write_lengths-requires : goal.write_lengths-requires
write_lengths-requires c =
    let a = c.args in
    let k = count a.s a.target a.places.now a.lengths.now _ c.find_score-n.result c.find_score-n.ensures in
    let l = c.if-lengths-n.false in
    omega arith

pub returns : goal.returns
returns c =
    let a = c.args in
    bags-room a.s a.target a.places.now a.lengths.now _ c.find_score-n.result c.find_score-n.ensures c.values_of-points.result c.values_of-points.ensures
    _ c.write_rows.result c.write_rows.ensures _ c.write_lengths.result c.write_lengths.ensures c.if-places-n.false c.if-lengths-n.false
