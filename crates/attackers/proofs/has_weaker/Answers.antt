use native.Mathlib.Omega.{arith}
use Prim.Native.Nat.{ℕ, ◌-◌}
use mathlib.Core.Logic.{⊎_elim}
use Rattle.vertex_set.specs.Set.{Member}
use Rattle.vertex_set.proofs.Decisions.{decide-yes, decide-no}
use Rattle.attackers.specs.Inner.{BothWeaker}
use Rattle.attackers.proofs.Scans.{none_more}
use Rattle.attackers.proofs.has_weaker.Goals as goal
use Rattle.attackers.proofs.has_weaker.Goals.{else-has-via-else-has, else-has-via-then-has+else-is_weaker}

pub returns-then-is_weaker : goal.returns-then-is_weaker
returns-then-is_weaker c =
    decide-yes (record { attacker = c.loop-j.j; member = c.has.ensures.yes c.if-has.true; weaker = c.is_weaker.ensures.yes c.if-is_weaker.true })

pub loop-j-preserved : goal.loop-j-preserved
loop-j-preserved c =
    let a = c.args in
    let q : Member a.set.0 c.loop-j.j × BothWeaker c.loop-j.j a.k → ⊥ =
    λ p. elim c.else-has.branch [ else-has-via-then-has+else-is_weaker w ↦ w.is_weaker.ensures.no w.if-is_weaker.false p.1 | else-has-via-else-has w ↦ c.has.ensures.no w.if-has.false p.0 ] in
    (omega arith, none_more (λ (i : ℕ). Member a.set.0 i × BothWeaker i a.k) c.loop-j.j c.loop-j.invariant.1 q)

pub returns : goal.returns
returns c =
    let l = c.loop-j in
    decide-no (λ x. l.invariant.1 x.attacker (let s = x.weaker.at_most.first in omega arith) (x.member, x.weaker))
