-- `multisets::multiset_at_most` meets its contract: a longer list is no bag, and bags are compared by counts.
-- Assumes nothing.
use Rattle.multisets.proofs.Meaning.{at-most-decided}
use Rattle.multisets.proofs.multiset_at_most.Goals as goal

pub returns-then-b-le-MOST_VALUES : goal.returns-then-b-le-MOST_VALUES
returns-then-b-le-MOST_VALUES c =
    let bags = c.if-b-le-MOST_VALUES.true in
    at-most-decided c.args.a.now c.args.b.now bags.0 bags.1 _ c.is_fewer.ensures
