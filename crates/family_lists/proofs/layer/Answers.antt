-- `family_lists::layer` meets its contract. A constant of seven words, whose rule is one computed test.
-- Assumes nothing.
use Rattle.family_lists.proofs.Lists.{layer_below, layer-of, layer-beyond}
use Rattle.family_lists.proofs.layer.Goals as goal

pub returns-then-s-k : goal.returns-then-s-k
returns-then-s-k c = layer_below c.args.k c.args.s c.if-s-k.true

pub returns-then-d-lt7 : goal.returns-then-d-lt7
returns-then-d-lt7 c = layer-of c.args.k c.args.s c.if-s-k.false c.if-d-lt7.true

pub returns-else-d-lt7 : goal.returns-else-d-lt7
returns-else-d-lt7 c = layer-beyond c.args.k c.args.s c.if-s-k.false c.if-d-lt7.false
