use Prim.Native.Nat.{◌≤◌, ◌*◌}
use mathlib.Core.Path.{◌≡◌}
use lib.Count.{ones}
use lib.ListN.{take}
use Rattle.setup.specs.Setup.{total}
use Rattle.living.proofs.edge_count.Given as goal

-- edges is how many run into the places before the next, at most 512 into each.
abbrev pub invariant-loop-rows : goal.invariant-loop-rows
invariant-loop-rows l =
    (l.edges ≡ total (λ r. total ones r.needs) (take l.rows-index l.rows-items)) × (l.edges ≤ 512 * l.rows-index)
