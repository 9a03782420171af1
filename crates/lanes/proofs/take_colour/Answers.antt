-- `lanes::take_colour` meets its contract: an empty row changes nothing, any other is a colour.
-- Assumes nothing.
use borrow.Author.Rules.{rules}
use Rattle.lanes.proofs.Colours.{take_none, take-one}
use Rattle.lanes.proofs.take_colour.Goals as goal

pub returns-then-row-eq0 : goal.returns-then-row-eq0
returns-then-row-eq0 c =
    take_none c.args.loss c.args.w.now c.args.row _ (search rules) c.if-row-eq0.true

pub returns : goal.returns
returns c =
    let a = c.args in
    take-one a.loss a.w.now a.row _ _ _ c.if-row-eq0.false c.scan-part.ensures c.merge_in.ensures
