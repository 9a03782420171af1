use Prim.Native.Nat.{◌≤◌}
use native.Mathlib.Omega.{arith}
use lib.ListN.{length, drop, length-drop}
use Rattle.sheet_fields.proofs.Cutting.{until-le}
use Rattle.pooling.proofs.Calls.{lines_step, lines_end}
use Rattle.pooling.proofs.count_lines.Goals as goal

pub loop-at-init : goal.loop-at-init
loop-at-init c = (omega arith, omega arith)

pub overflow_add-lines : goal.overflow_add-lines
overflow_add-lines c =
    let line-end : (c.loop-at.at ≤ c.find-end.result) × (c.find-end.result ≤ length c.args.s.now) = let s = c.args.s.now in
    let d = length-drop c.loop-at.at s in
    let u = until-le 10 (drop c.loop-at.at s) in
    let t = c.loop-at-test.true in
    let e = c.find-end.ensures in
    (omega arith, omega arith) in
    let b = line-end in
    let lo = b.0 in
    let hi = b.1 in
    let n = c.loop-at.invariant.0 in
    omega arith

pub overflow_add-at : goal.overflow_add-at
overflow_add-at c =
    let line-end : (c.loop-at.at ≤ c.find-end.result) × (c.find-end.result ≤ length c.args.s.now) = let s = c.args.s.now in
    let d = length-drop c.loop-at.at s in
    let u = until-le 10 (drop c.loop-at.at s) in
    let t = c.loop-at-test.true in
    let e = c.find-end.ensures in
    (omega arith, omega arith) in
    let b = line-end in
    let hi = b.1 in
    omega arith

pub loop-at-smaller : goal.loop-at-smaller
loop-at-smaller c =
    let line-end : (c.loop-at.at ≤ c.find-end.result) × (c.find-end.result ≤ length c.args.s.now) = let s = c.args.s.now in
    let d = length-drop c.loop-at.at s in
    let u = until-le 10 (drop c.loop-at.at s) in
    let t = c.loop-at-test.true in
    let e = c.find-end.ensures in
    (omega arith, omega arith) in
    let b = line-end in
    let lo = b.0 in
    let hi = b.1 in
    let t = c.loop-at-test.true in
    omega arith

pub loop-at-preserved : goal.loop-at-preserved
loop-at-preserved c =
    let line-end : (c.loop-at.at ≤ c.find-end.result) × (c.find-end.result ≤ length c.args.s.now) = let s = c.args.s.now in
    let d = length-drop c.loop-at.at s in
    let u = until-le 10 (drop c.loop-at.at s) in
    let t = c.loop-at-test.true in
    let e = c.find-end.ensures in
    (omega arith, omega arith) in
    let b = line-end in
    let lo = b.0 in
    let n = c.loop-at.invariant.0 in
    (omega arith, lines_step c.args.s.now c.loop-at.at c.find-end.result c.loop-at.lines _ c.loop-at-test.true c.find-end.ensures c.loop-at.invariant.1)

pub returns : goal.returns
returns c =
    lines_end c.args.s.now c.loop-at.at c.loop-at.lines _ c.loop-at-test.false c.loop-at.invariant.1
