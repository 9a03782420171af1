-- `pooling::in_bounds` meets its contract: one bound after the other.
use Rattle.pooling.proofs.Calls.{bounds-last, items-over, starts-over, losses-over}
use Rattle.pooling.proofs.in_bounds.Goals as goal

pub returns-then-items-gt-MAX_ITEMS : goal.returns-then-items-gt-MAX_ITEMS
returns-then-items-gt-MAX_ITEMS c = items-over _ _ _ _ c.if-items-gt-MAX_ITEMS.true

pub returns-then-starts-gt-MAX_CHOSEN : goal.returns-then-starts-gt-MAX_CHOSEN
returns-then-starts-gt-MAX_CHOSEN c = starts-over _ _ _ _ c.if-starts-gt-MAX_CHOSEN.true

pub returns-then-losses-gt-MAX_CHOSEN : goal.returns-then-losses-gt-MAX_CHOSEN
returns-then-losses-gt-MAX_CHOSEN c = losses-over _ _ _ _ c.if-losses-gt-MAX_CHOSEN.true

pub returns : goal.returns
returns c = bounds-last _ _ _ _ c.if-items-gt-MAX_ITEMS.false c.if-starts-gt-MAX_CHOSEN.false c.if-losses-gt-MAX_CHOSEN.false
