use mathlib.Core.Path.{◌≡◌, ◌∙◌}
use Prim.Native.Nat.{◌+◌, ◌-◌, ◌≤◌}
use native.Mathlib.Omega.{arith}
use native.Mathlib.Nat.{sub-zero}
use lib.ListN.{length, drop, length-drop}
use Rattle.sheet_format.specs.Text.{lines_of}
use Rattle.sheet_format.specs.Names.{line_start}
use Rattle.sheet_fields.proofs.Cutting.{until-le}
use Rattle.sheet_lines.proofs.Starts.{start_first, start-over, start-next}
use Rattle.sheet_lines.proofs.names.line_start.Goals as goal

pub loop-line-init : goal.loop-line-init
loop-line-init c =
    let e = sub-zero c.args.k in
    (omega arith, rw e (omega arith))

pub returns-then-s-at : goal.returns-then-s-at
returns-then-s-at c =
    let s = c.args.s.now in
    let z = start-over s c.loop-line.at (c.args.k - c.loop-line._line) c.if-s-at.true in
    omega (arith, c.loop-line.invariant.1)

pub overflow_add-at : goal.overflow_add-at
overflow_add-at c =
    let line-end : c.find-at.result ≤ length c.args.s.now = let s = c.args.s.now in
    let d = length-drop c.loop-line.at s in
    let u = until-le 10 (drop c.loop-line.at s) in
    let t = c.if-s-at.false in
    let e = c.find-at.ensures in
    omega arith in
    let l = line-end in
    omega arith

pub loop-line-preserved : goal.loop-line-preserved
loop-line-preserved c =
    let line-end : c.find-at.result ≤ length c.args.s.now = let s = c.args.s.now in
    let d = length-drop c.loop-line.at s in
    let u = until-le 10 (drop c.loop-line.at s) in
    let t = c.if-s-at.false in
    let e = c.find-at.ensures in
    omega arith in
    let a = c.args in
    let l = line-end in
    let z = start-next a.s.now c.loop-line.at c.find-at.result c.loop-line._line a.k c.if-s-at.false c.find-at.ensures c.loop-line-test.true in
    (omega arith, c.loop-line.invariant.1 ∙ z)

pub returns : goal.returns
returns c =
    let a = c.args in
    let e : a.k - c.loop-line._line ≡ 0 = omega (arith, c.loop-line-test.false) in
    let z = start_first (lines_of (drop c.loop-line.at a.s.now)) in
    let i : line_start (lines_of a.s.now) a.k ≡ c.loop-line.at + line_start (lines_of (drop c.loop-line.at a.s.now)) 0 = c.loop-line.invariant.1 ∙ rw e in
    omega arith
