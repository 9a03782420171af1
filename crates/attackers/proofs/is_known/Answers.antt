use native.Mathlib.Omega.{arith}
use Prim.Native.Nat.{ℕ, ◌-◌}
use mathlib.Core.Logic.{⊎_elim}
use Rattle.vertex_set.proofs.Decisions.{decide-yes, decide-no}
use Rattle.attackers.specs.Inner.{SettlesKind}
use Rattle.attackers.proofs.Scans.{none_more}
use Rattle.attackers.proofs.is_known.Goals as goal

pub returns-then-settles : goal.returns-then-settles
returns-then-settles c =
    decide-yes (record { attacker = c.loop-j.j; settles = c.settles.ensures.yes c.if-settles.true })

pub loop-j-preserved : goal.loop-j-preserved
loop-j-preserved c =
    let a = c.args in
    (omega arith, none_more (λ (i : ℕ). SettlesKind a.able.0 a.unable.0 i a.t) c.loop-j.j c.loop-j.invariant.1 (c.settles.ensures.no c.if-settles.false))

pub returns : goal.returns
returns c =
    let l = c.loop-j in
    decide-no (λ x. l.invariant.1 x.attacker (let s = ⊎_elim (λ p. p.1.first) (λ p. p.1.second) x.settles in omega arith) x.settles)
