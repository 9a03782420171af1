use borrow.Author.Rules.{rules}
use lib.Seq.{length-take-le}
use Rattle.std.proofs.lemmas.Iterator.{YieldsList-from_slice}
use Rattle.std.proofs.lemmas.Iterator.Search.{position_from_yields_List}
use Rattle.records.specs.Records.{same_three}
use Rattle.records.proofs.Laws.{placed, all-used, laid-down}
use Rattle.records.proofs.lay.Goals as goal

pub returns-then-place-records : goal.returns-then-place-records
returns-then-place-records c =
    let a = c.args in
    let f = position_from_yields_List (λ r. same_three r a.new) _ _ c.position.result c.position.ensures.ran (YieldsList-from_slice _ c.iter.ensures.rest) (λ x b q k. search rules) in
    let p = placed a.new _ a.used c.unwrap_or-place.result c.position.result (length-take-le a.used a.records.now c.requires) f c.unwrap_or-place.ensures in
    all-used _ _ _ _ c.requires p c.if-place-records.true

pub returns : goal.returns
returns c =
    let a = c.args in
    let f = position_from_yields_List (λ r. same_three r a.new) _ _ c.position.result c.position.ensures.ran (YieldsList-from_slice _ c.iter.ensures.rest) (λ x b q k. search rules) in
    let p = placed a.new _ a.used c.unwrap_or-place.result c.position.result (length-take-le a.used a.records.now c.requires) f c.unwrap_or-place.ensures in
    laid-down _ _ _ _ c.requires p _ c.if-place-records.false c.max.ensures
