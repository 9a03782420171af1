-- `tables::next` meets its contract: what is in todo and in after is in todo.
-- Assumes nothing.
use Rattle.vertex_set.proofs.Sets.{in_and}
use Rattle.tables.proofs.next.Goals as goal

pub returns : goal.returns
returns c =
    let r = c.end-2.ensures in
    record { place = r.place; member = ((in_and _ _ _).to r.member).0 }
