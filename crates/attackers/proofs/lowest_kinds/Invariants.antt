use Prim.Native.Nat.{◌-◌, ◌≤◌}
use Rattle.successors.specs.Inner.{Successors}
use Rattle.attackers.proofs.Trying.{Trying}
use Rattle.attackers.proofs.lowest_kinds.Given as goal

-- The kinds of able get in, those of unable do not, and they settle each kind whose place has been passed.
abbrev pub invariant-loop-t : goal.invariant-loop-t
invariant-loop-t l =
    (l.t-index ≤ 6) × Successors l.graph l.list × Trying l.graph l.kinds l.initial'.0 l.target l.t-index l.able.0 l.unable.0
