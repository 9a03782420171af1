use mathlib.Core.Path.{◌∙◌}
use Prim.Native.Nat.{◌+◌}
use Rattle.std.proofs.Common.{arith}
use Rattle.sheet_fields.proofs.Cutting.{Stepped, stepped, not-stepped, last_none, last_more, cuts}
use Rattle.sheet_fields.proofs.cut_four.Goals as goal
use Rattle.sheet_fields.proofs.cut_four.Goals.{then-last-l-via-then-last-l, then-last-l-via-else-last-l+then-end-l}

pub returns-in_err-first : goal.returns-in_err-first
returns-in_err-first c = rw c.from_residual.ensures (not-stepped c.args.l.now 0 c.in_err-first.ensures 2)

pub overflow_add-first : goal.overflow_add-first
overflow_add-first c =
    let first : Stepped c.args.l.now 0 c.in_ok-first.first = stepped c.args.l.now 0 c.in_ok-first.first c.in_ok-first.ensures in
    let i = first.inside in
    omega arith

pub returns-in_err-second : goal.returns-in_err-second
returns-in_err-second c =
    let first : Stepped c.args.l.now 0 c.in_ok-first.first = stepped c.args.l.now 0 c.in_ok-first.first c.in_ok-first.ensures in
    rw c.from_residual-in_err-second.ensures (first.question 2 ∙ not-stepped c.args.l.now (c.in_ok-first.first + 1) c.in_err-second.ensures 1)

pub overflow_add-second : goal.overflow_add-second
overflow_add-second c =
    let first : Stepped c.args.l.now 0 c.in_ok-first.first = stepped c.args.l.now 0 c.in_ok-first.first c.in_ok-first.ensures in
    let second : Stepped c.args.l.now (c.in_ok-first.first + 1) c.in_ok-second.second = stepped c.args.l.now (c.in_ok-first.first + 1) c.in_ok-second.second c.in_ok-second.ensures in
    let i = second.inside in
    omega arith

pub returns-in_err-third : goal.returns-in_err-third
returns-in_err-third c =
    let first : Stepped c.args.l.now 0 c.in_ok-first.first = stepped c.args.l.now 0 c.in_ok-first.first c.in_ok-first.ensures in
    let second : Stepped c.args.l.now (c.in_ok-first.first + 1) c.in_ok-second.second = stepped c.args.l.now (c.in_ok-first.first + 1) c.in_ok-second.second c.in_ok-second.ensures in
    rw c.from_residual-in_err-third.ensures (first.question 2 ∙ second.question 1 ∙ not-stepped c.args.l.now (c.in_ok-second.second + 1) c.in_err-third.ensures 0)

pub overflow_add-last : goal.overflow_add-last
overflow_add-last c =
    let first : Stepped c.args.l.now 0 c.in_ok-first.first = stepped c.args.l.now 0 c.in_ok-first.first c.in_ok-first.ensures in
    let second : Stepped c.args.l.now (c.in_ok-first.first + 1) c.in_ok-second.second = stepped c.args.l.now (c.in_ok-first.first + 1) c.in_ok-second.second c.in_ok-second.ensures in
    let third : Stepped c.args.l.now (c.in_ok-second.second + 1) c.in_ok-third.third = stepped c.args.l.now (c.in_ok-second.second + 1) c.in_ok-third.third c.in_ok-third.ensures in
    let i = third.inside in
    omega arith

pub returns-then-last-l : goal.returns-then-last-l
returns-then-last-l c =
    let first : Stepped c.args.l.now 0 c.in_ok-first.first = stepped c.args.l.now 0 c.in_ok-first.first c.in_ok-first.ensures in
    let second : Stepped c.args.l.now (c.in_ok-first.first + 1) c.in_ok-second.second = stepped c.args.l.now (c.in_ok-first.first + 1) c.in_ok-second.second c.in_ok-second.ensures in
    let third : Stepped c.args.l.now (c.in_ok-second.second + 1) c.in_ok-third.third = stepped c.args.l.now (c.in_ok-second.second + 1) c.in_ok-third.third c.in_ok-third.ensures in
    let l = c.args.l.now in
    first.question 2 ∙ second.question 1 ∙ third.question 0
    ∙ elim c.then-last-l.branch [
      | then-last-l-via-then-last-l w ↦ last_none l (c.in_ok-third.third + 1) w.if-last-l.true
      | then-last-l-via-else-last-l+then-end-l w ↦ last_more l (c.in_ok-third.third + 1) (rw c.find-end.ensures at w.if-end-l.true)
    ]

pub returns : goal.returns
returns c =
    let first : Stepped c.args.l.now 0 c.in_ok-first.first = stepped c.args.l.now 0 c.in_ok-first.first c.in_ok-first.ensures in
    let second : Stepped c.args.l.now (c.in_ok-first.first + 1) c.in_ok-second.second = stepped c.args.l.now (c.in_ok-first.first + 1) c.in_ok-second.second c.in_ok-second.ensures in
    let third : Stepped c.args.l.now (c.in_ok-second.second + 1) c.in_ok-third.third = stepped c.args.l.now (c.in_ok-second.second + 1) c.in_ok-third.third c.in_ok-third.ensures in
    cuts c.args.l.now _ _ _ first second third c.if-last-l.false (rw c.find-end.ensures at c.if-end-l.false)
