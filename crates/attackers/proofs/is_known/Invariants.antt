use Prim.Native.Nat.{ℕ, ◌-◌, ◌≤◌, ◌<◌}
use Rattle.attackers.specs.Inner.{SettlesKind}
use Rattle.attackers.proofs.is_known.Given as goal

-- No kind below j settles t.
abbrev pub invariant-loop-j : goal.invariant-loop-j
invariant-loop-j l = (l.j ≤ 6) × ((i : ℕ) → i < l.j → SettlesKind l.able.0 l.unable.0 i l.t → ⊥)
