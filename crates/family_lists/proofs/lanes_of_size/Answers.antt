-- `family_lists::lanes_of_size` meets its contract. A mask has the bits of its word's number and those of its lane.
-- Assumes nothing.
use Rattle.family_lists.proofs.Lists.{lanes-of-layer}
use Rattle.family_lists.proofs.lanes_of_size.Goals as goal

pub returns : goal.returns
returns c = lanes-of-layer c.args.b c.args.s _ c.layer.ensures
