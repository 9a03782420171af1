use mathlib.Core.Path.{sym, subst}
use Prim.Native.Nat.{◌+◌, ◌≤◌, ◌<◌}
use Rattle.std.proofs.Common.{arith}
use Rattle.vertex_set.specs.declared.VertexSet.{VertexSet}
use Rattle.pool_colours.proofs.Renaming.{NewUpTo, taken-same, taken_more, new_none, new_is, upto-none, upto-more, upto-over}
use Rattle.pool_colours.proofs.new_colour.Goals as goal
use Rattle.pool_colours.proofs.new_colour.Goals.{then-b-colour+then-needs-ne0+in_ok-new, else-b-colour, else-b-colour-via-then-b-colour+else-needs-ne0, else-b-colour-via-else-b-colour}

pub loop-b-init : goal.loop-b-init
loop-b-init c = upto-none _ _ _

pub returns-in_err-new : goal.returns-in_err-new
returns-in_err-new c =
    let a = c.args in
    let t = c.if-b-colour.true in
    let h : c.loop-b.b ≤ a.colour = omega arith in
    rw c.from_residual.ensures
    (new_none c.used_colours-taken.result.0 a.second.now c.loop-b.b c.loop-b.taken.0 (c.loop-b.invariant.before h) a.first.now c.used_colours-taken.ensures c.lowest_free.result a.colour h c.lowest_free.ensures c.in_err-new.was)

pub loop-b-preserved : goal.loop-b-preserved
loop-b-preserved c =
    let a = c.args in
    let s = c.used_colours-taken.result.0 in
    let i = c.loop-b.b in
    elim c.if-b-colour.branch [
      | then-b-colour+then-needs-ne0+in_ok-new w ↦
          let h : i < a.colour = (let t = w.if-b-colour.true in omega arith) in
          let n = c.loop-b.invariant.before (omega (arith, h)) in
          subst (λ (x : VertexSet). NewUpTo s a.second.now a.colour (i + 1) x.0) (sym w.taken-is)
          (upto-more s a.second.now a.colour i _ h
          (taken_more s a.second.now i c.loop-b.taken.0 n w.in_ok-new.new w.insert-taken.result.0 w.lowest_free.result w.if-needs-ne0.true w.lowest_free.ensures w.in_ok-new.was w.insert-taken.ensures))
      | else-b-colour w ↦
          subst (λ (x : VertexSet). NewUpTo s a.second.now a.colour (i + 1) x.0) (sym w.taken-is)
          (elim w.else-b-colour.branch [
            | else-b-colour-via-then-b-colour+else-needs-ne0 v ↦
                let h : i < a.colour = (let t = v.if-b-colour.true in omega arith) in
                upto-more s a.second.now a.colour i _ h (taken-same s a.second.now i c.loop-b.taken.0 (c.loop-b.invariant.before (omega (arith, h))) v.if-needs-ne0.false)
            | else-b-colour-via-else-b-colour v ↦
                upto-over s a.second.now a.colour i _ (let t = v.if-b-colour.false in omega arith) c.loop-b.invariant
          ])
    ]

pub returns : goal.returns
returns c =
    let a = c.args in
    let t = c.loop-b-test.false in
    let b = c.requires in
    let n = c.loop-b.invariant.behind (omega arith) in
    new_is c.used_colours-taken.result.0 a.second.now a.colour c.loop-b.taken.0 n a.first.now c.used_colours-taken.ensures c.lowest_free-2.result c.lowest_free-2.ensures
