-- `family_steps::lanes_from` meets its contract: all lanes, or those that are not below the first.
-- Assumes nothing.
use borrow.Author.Rules.{rules}
use Rattle.family_steps.proofs.Steps.{all_lanes, later-lanes}
use Rattle.family_steps.proofs.lanes_from.Goals as goal

pub returns-then-from-start : goal.returns-then-from-start
returns-then-from-start c = all_lanes c.args.b c.args.from c.if-from-start.true

pub returns : goal.returns
returns c =
    let a = c.args in
    later-lanes a.b a.from _ c.if-from-start.false (search rules) c.below-low.ensures
