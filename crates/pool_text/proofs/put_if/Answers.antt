-- `pool_text::put_if` meets its contract: the text, or nothing.
use Rattle.pool_text.proofs.Rows.{room-asked, penned-asked, penned-not}
use Rattle.pool_text.proofs.put_if.Goals as goal

pub put-requires : goal.put-requires
put-requires c =
    room-asked _ c.args.pen.now _ c.if-asked.true c.requires

pub returns-then-asked : goal.returns-then-asked
returns-then-asked c =
    penned-asked _ _ _ _ c.if-asked.true c.put.ensures

pub returns-else-asked : goal.returns-else-asked
returns-else-asked c = penned-not _ _ _ c.if-asked.false
