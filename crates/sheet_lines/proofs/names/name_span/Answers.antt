use mathlib.Core.Path.{◌∙◌}
use Prim.Native.Nat.{◌-◌, ◌≤◌}
use native.Mathlib.Numerals.{add-one}
use native.Mathlib.Omega.{arith}
use lib.ListN.{length, take, drop, length-drop, length-take}
use Rattle.sheet_fields.proofs.Cutting.{until-le}
use Rattle.sheet_lines.proofs.Starts.{span-over, span-inside}
use Rattle.sheet_lines.proofs.names.name_span.Goals as goal

pub returns-then-s-from : goal.returns-then-s-from
returns-then-s-from c =
    let a = c.args in
    span-over a.s.now a.item c.line_start-from.result (c.line_start-from.ensures ∙ rw (add-one a.item)) c.if-s-from.true

pub slice_bounds-find-end : goal.slice_bounds-find-end
slice_bounds-find-end c =
    let line-end : c.find-end.result ≤ length c.args.s.now = let s = c.args.s.now in
    let d = length-drop c.line_start-from.result s in
    let u = until-le 10 (drop c.line_start-from.result s) in
    let t = c.if-s-from.false in
    let e = c.find-end.ensures in
    omega arith in
    line-end

pub overflow_add-result : goal.overflow_add-result
overflow_add-result c =
    let line-end : c.find-end.result ≤ length c.args.s.now = let s = c.args.s.now in
    let d = length-drop c.line_start-from.result s in
    let u = until-le 10 (drop c.line_start-from.result s) in
    let t = c.if-s-from.false in
    let e = c.find-end.ensures in
    omega arith in
    let s = c.args.s.now in
    let from = c.line_start-from.result in
    let l = line-end in
    let u = until-le 32 (take (c.find-end.result - from) (drop from s)) in
    let m = length-take (c.find-end.result - from) (drop from s) in
    let e = c.find-size.ensures in
    omega arith

pub returns : goal.returns
returns c =
    let a = c.args in
    span-inside a.s.now a.item c.line_start-from.result c.find-end.result c.find-size.result (c.line_start-from.ensures ∙ rw (add-one a.item))
    c.if-s-from.false c.find-end.ensures c.find-size.ensures
