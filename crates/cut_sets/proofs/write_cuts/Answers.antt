-- `cut_sets::write_cuts` meets its contract: there is no room, or the sets of the family are written.
-- Assumes nothing.
use Rattle.cut_sets.proofs.Calls.{cuts-short, cuts-room}
use Rattle.cut_sets.proofs.write_cuts.Goals as goal

pub returns-then-out-n : goal.returns-then-out-n
returns-then-out-n c =
    let a = c.args in
    cuts-short a.s a.target c.chosen-initial.result.0 c.cut_family-n.result c.requires.formed _ _ c.cut_family-n.ensures c.if-out-n.true

pub returns : goal.returns
returns c =
    let a = c.args in
    cuts-room a.s a.target c.chosen-initial.result.0 c.cut_family-n.result c.requires.formed _ _ c.cut_family-n.ensures c.if-out-n.false c.write_sets.result _ c.write_sets.ensures
