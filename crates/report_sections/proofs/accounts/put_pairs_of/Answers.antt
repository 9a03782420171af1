-- `report_sections::accounts::put_pairs_of` meets its contract: the vertices of its set are the accounts that are out of rank with v above.
use mir.Val.{Fits}
use mir.Syntax.{w64}
use lib.ListN.{get_or}
use Rattle.report_facts.specs.Texts.{pairs_at}
use Rattle.report_sections.proofs.Parts.{part-wrote, part-empty, no_pairs, pairs-text, below-room}
use borrow.Author.Rules.{rules}
use Rattle.report_sections.proofs.accounts.put_pairs_of.Goals as goal

pub put_pairs-requires-clause-room : goal.put_pairs-requires-clause-room
put_pairs-requires-clause-room c =
    let low_below : Fits w64 (get_or c.args.source.facts.now.below c.args.v 0) = search rules in
    below-room _ _ _ _ _ c.requires low_below.fits

pub returns-then-not-has-clause-part : goal.returns-then-not-has-clause-part
returns-then-not-has-clause-part c =
    let a = c.args in
    part-empty pairs_at _ _ _ _ _ (no_pairs a.source.sheet.now a.source.facts.now a.v (c.has.ensures.no c.if-not-has.true)) c.requires

pub returns-clause-part : goal.returns-clause-part
returns-clause-part c =
    let a = c.args in
    let low_below : Fits w64 (get_or a.source.facts.now.below a.v 0) = search rules in
    part-wrote pairs_at _ _ _ _ _ _ _ _
    (pairs-text a.source.sheet.now a.source.facts.now a.v (c.has.ensures.yes c.if-not-has.false))
    (below-room _ _ _ _ _ c.requires low_below.fits)
    c.put_pairs.ensures.row_written
