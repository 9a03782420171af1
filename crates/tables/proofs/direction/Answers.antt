-- `tables::direction` meets its contract, by the test of the set.
-- Assumes nothing.
use Rattle.tables.proofs.Sweeps.{way_back, way_on_lem}
use Rattle.tables.proofs.direction.Goals as goal

pub returns-then-later-eq0 : goal.returns-then-later-eq0
returns-then-later-eq0 c = way_back _ _ c.if-later-eq0.true

pub returns-else-later-eq0 : goal.returns-else-later-eq0
returns-else-later-eq0 c = way_on_lem _ _ c.if-later-eq0.false
