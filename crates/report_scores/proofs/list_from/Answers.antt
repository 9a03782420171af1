-- `report_scores::list_from` meets its contract: the sets of the target's minimal masks are its base.
-- Assumes nothing.
use Prim.Native.Nat.{◌^◌, ◌<◌}
use native.Mathlib.Omega.{arith}
use Rattle.report_scores.proofs.Reading.{writable, listing}
use borrow.Author.Rules.{rules}
use Rattle.report_scores.proofs.list_from.Goals as goal

pub words_of-requires : goal.words_of-requires
words_of-requires c =
    let long = c.requires.table.words in
    let v = c.requires.vertex in
    omega arith

pub write_sets-requires : goal.write_sets-requires
write_sets-requires c =
    let a = c.args in
    writable a.w.now a.chosen.0 a.target _ a.out.now c.words_of.ensures (λ i. (c.type_inv.w i).fits) c.requires

pub returns : goal.returns
returns c =
    let a = c.args in
    let small : a.chosen.0 < 2 ^ 64 = search rules in
    listing a.w.now a.chosen.0 a.target _ a.out.now _ c.write_sets.result c.words_of.ensures small c.requires c.write_sets.auto.out c.write_sets.ensures
