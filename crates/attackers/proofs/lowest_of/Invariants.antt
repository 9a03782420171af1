use Prim.Native.Nat.{◌-◌, ◌≤◌}
use Rattle.vertex_set.specs.Set.{Member}
use Rattle.attackers.proofs.Lowering.{Lowering}
use Rattle.attackers.proofs.lowest_of.Given as goal

-- Of the kinds below t, found has the lowest of the set.
abbrev pub invariant-loop-t : goal.invariant-loop-t
invariant-loop-t l = (l.t ≤ 6) × Lowering (Member l.able.0) l.t l.found.0
