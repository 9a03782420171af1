use Prim.Native.Nat.{ℕ, ◌-◌, ◌≤◌, ◌<◌}
use Rattle.vertex_set.specs.Set.{Member}
use Rattle.attackers.specs.Inner.{BothWeaker}
use Rattle.attackers.proofs.has_weaker.Given as goal

-- No kind below j is in the set and below k.
abbrev pub invariant-loop-j : goal.invariant-loop-j
invariant-loop-j l = (l.j ≤ 6) × ((i : ℕ) → i < l.j → Member l.set.0 i × BothWeaker i l.k → ⊥)
