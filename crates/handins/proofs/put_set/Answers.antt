-- `handins::put_set` meets its contract: the pen begins at the buffer's start.
use borrow.Author.Rules.{rules}
use Rattle.writing.proofs.Pens.{start_wrote}
use Rattle.handins.proofs.put_set.Goals as goal

pub returns : goal.returns
returns c = let w = start_wrote _ _ c.new-pen.ensures _ _ c.put_items.ensures in search (rules, w)
