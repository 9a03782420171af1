-- The walks hold: they go through the opening lists of the examples, which are computed.
-- Assumes nothing.
use mathlib.Core.Bool.{false}
use Prim.Native.Nat.{◌<◌}
use native.Mathlib.Omega.{arith}
use Rattle.bases.specs.Base.{Base}
use Rattle.next_sets.proofs.Walks.{whole-walk}
use Rattle.worked_examples.specs.Sheets.{ReadsSheet}
use Rattle.worked_examples.specs.NextSets.{WalkExample, Walks, AllWalk}
use Rattle.worked_examples.proofs.Reading.{◌&◌, reads-well, read-bench, read-ring, read-loop, read-spare}
use Rattle.worked_examples.proofs.Table.{held, table-holds, further-holds}

walked : (x : WalkExample) → ReadsSheet x.sheet → x.target < x.sheet.setup.count → Base false x.sheet.setup x.sheet.setup.graph x.target x.sets → Walks x
walked x r l b =
    record { setup = x.sheet.setup; reading = r; holds = (whole-walk x.sheet.setup x.target (reads-well x.sheet r) l x.sets).from b }

pub all-walk : AllWalk
all-walk =
    walked _ read-bench (omega arith) (held _ _ read-bench table-holds.1.1.0)
    & walked _ read-ring (omega arith) (held _ _ read-ring further-holds.1.1.1.1.1.1.1.1.1.0)
    & walked _ read-ring (omega arith) (held _ _ read-ring table-holds.1.1.1.1.1.1.1.1.0)
    & walked _ read-loop (omega arith) (held _ _ read-loop table-holds.1.1.1.1.1.1.1.1.1.1.1.0)
    & walked _ read-spare (omega arith) (held _ _ read-spare further-holds.1.1.1.1.1.1.1.1.1.1.1.1.1.1.1.0)
    & tt
