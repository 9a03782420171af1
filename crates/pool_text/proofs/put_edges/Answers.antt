use Prim.Native.Nat.{◌-◌, ◌≤◌, ◌<◌}
use native.Mathlib.Omega.{arith}
use lib.ListN.{length, drop, length-drop}
use Rattle.writing.proofs.Pens.{pen_end}
use Rattle.sheet_fields.proofs.Cutting.{until-le}
use Rattle.pool_text.proofs.Rows.{edges-first, edge-can, edge-room, edges-next, edges-over}
use Rattle.pool_text.proofs.put_edges.Goals as goal

pub loop-from-init : goal.loop-from-init
loop-from-init c = edges-first _ _ _ _ c.requires.can_put

pub bounds-digits-k : goal.bounds-digits-k
bounds-digits-k c =
    let can : c.loop-from.k < 256 = (edge-can _ _ _ _ _ _ _ c.loop-from.invariant c.loop-from-test.true c.find-end.result c.find-end.ensures).1 in
    can

pub slice_bounds-put_edge-count : goal.slice_bounds-put_edge-count
slice_bounds-put_edge-count c =
    let line-end : (c.loop-from.from ≤ c.find-end.result) × (c.find-end.result ≤ length c.args.s.now) = let s = c.args.s.now in
    let d = length-drop c.loop-from.from s in
    let u = until-le 10 (drop c.loop-from.from s) in
    let t = c.loop-from-test.true in
    let e = c.find-end.ensures in
    (omega arith, omega arith) in
    line-end.0

pub slice_bounds-put_edge-start : goal.slice_bounds-put_edge-start
slice_bounds-put_edge-start c =
    let line-end : (c.loop-from.from ≤ c.find-end.result) × (c.find-end.result ≤ length c.args.s.now) = let s = c.args.s.now in
    let d = length-drop c.loop-from.from s in
    let u = until-le 10 (drop c.loop-from.from s) in
    let t = c.loop-from-test.true in
    let e = c.find-end.ensures in
    (omega arith, omega arith) in
    line-end.0

pub slice_bounds-put_edge-end : goal.slice_bounds-put_edge-end
slice_bounds-put_edge-end c =
    let line-end : (c.loop-from.from ≤ c.find-end.result) × (c.find-end.result ≤ length c.args.s.now) = let s = c.args.s.now in
    let d = length-drop c.loop-from.from s in
    let u = until-le 10 (drop c.loop-from.from s) in
    let t = c.loop-from-test.true in
    let e = c.find-end.ensures in
    (omega arith, omega arith) in
    line-end.1

pub put_edge-requires : goal.put_edge-requires
put_edge-requires c = (
  (edge-can _ _ _ _ _ _ _ c.loop-from.invariant c.loop-from-test.true c.find-end.result c.find-end.ensures).0,
  edge-room _ _ _ _ _ _ _ c.loop-from.invariant c.loop-from-test.true c.find-end.result c.find-end.ensures c.requires.room,
)

pub overflow_add-from : goal.overflow_add-from
overflow_add-from c =
    let line-end : (c.loop-from.from ≤ c.find-end.result) × (c.find-end.result ≤ length c.args.s.now) = let s = c.args.s.now in
    let d = length-drop c.loop-from.from s in
    let u = until-le 10 (drop c.loop-from.from s) in
    let t = c.loop-from-test.true in
    let e = c.find-end.ensures in
    (omega arith, omega arith) in
    let b = line-end in
    let hi = b.1 in
    omega arith

pub overflow_add-k : goal.overflow_add-k
overflow_add-k c =
    let can : c.loop-from.k < 256 = (edge-can _ _ _ _ _ _ _ c.loop-from.invariant c.loop-from-test.true c.find-end.result c.find-end.ensures).1 in
    let b = can in
    omega arith

pub loop-from-smaller : goal.loop-from-smaller
loop-from-smaller c =
    let line-end : (c.loop-from.from ≤ c.find-end.result) × (c.find-end.result ≤ length c.args.s.now) = let s = c.args.s.now in
    let d = length-drop c.loop-from.from s in
    let u = until-le 10 (drop c.loop-from.from s) in
    let t = c.loop-from-test.true in
    let e = c.find-end.ensures in
    (omega arith, omega arith) in
    let b = line-end in
    let lo = b.0 in
    let hi = b.1 in
    let t = c.loop-from-test.true in
    omega arith

pub loop-from-preserved : goal.loop-from-preserved
loop-from-preserved c =
    edges-next _ _ _ _ _ _ _ c.loop-from.invariant c.loop-from-test.true c.find-end.result c.find-end.ensures _ c.put_edge.ensures

pub returns : goal.returns
returns c =
    pen_end _ _ _ _ (edges-over _ _ _ _ c.loop-from-test.false) c.loop-from.invariant.left
