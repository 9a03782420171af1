use borrow.Author.Rules.{rules}
use Prim.Native.Nat.{◌≤◌}
use native.Mathlib.Omega.{arith}
use lib.ListN.{length, drop, length-drop}
use Rattle.sheet_fields.proofs.Cutting.{until-le}
use Rattle.pool_colours.proofs.Edges.{colours-none, colours-full, colours-none-left, colours-ninth, colours-more, colours-all}
use Rattle.pool_colours.proofs.colours_of.Goals as goal

pub loop-at-init : goal.loop-at-init
loop-at-init c = (search rules, colours-none _ _ _ _ _ _ _ _ _ (search rules))

pub returns-then-edges-ge-MAX_EDGES : goal.returns-then-edges-ge-MAX_EDGES
returns-then-edges-ge-MAX_EDGES c =
    colours-full _ _ _ _ _ _ _ _ _ _ _ c.loop-at.invariant.1 c.loop-at-test.true c.if-edges-ge-MAX_EDGES.true

pub slice_bounds-edge_colour-count : goal.slice_bounds-edge_colour-count
slice_bounds-edge_colour-count c =
    let line-end : (c.loop-at.at ≤ c.find-end.result) × (c.find-end.result ≤ length c.args.s.now) = let s = c.args.s.now in
    let d = length-drop c.loop-at.at s in
    let u = until-le 10 (drop c.loop-at.at s) in
    let t = c.loop-at-test.true in
    let e = c.find-end.ensures in
    (omega arith, omega arith) in
    line-end.0

pub slice_bounds-edge_colour-start : goal.slice_bounds-edge_colour-start
slice_bounds-edge_colour-start c =
    let line-end : (c.loop-at.at ≤ c.find-end.result) × (c.find-end.result ≤ length c.args.s.now) = let s = c.args.s.now in
    let d = length-drop c.loop-at.at s in
    let u = until-le 10 (drop c.loop-at.at s) in
    let t = c.loop-at-test.true in
    let e = c.find-end.ensures in
    (omega arith, omega arith) in
    line-end.0

pub slice_bounds-edge_colour-end : goal.slice_bounds-edge_colour-end
slice_bounds-edge_colour-end c =
    let line-end : (c.loop-at.at ≤ c.find-end.result) × (c.find-end.result ≤ length c.args.s.now) = let s = c.args.s.now in
    let d = length-drop c.loop-at.at s in
    let u = until-le 10 (drop c.loop-at.at s) in
    let t = c.loop-at-test.true in
    let e = c.find-end.ensures in
    (omega arith, omega arith) in
    line-end.1

pub returns-in_err-colour : goal.returns-in_err-colour
returns-in_err-colour c =
    rw c.from_residual.ensures
    (colours-none-left _ _ _ _ _ _ _ _ _ _ _ c.loop-at.invariant.1 c.loop-at-test.true c.find-end.result c.find-end.ensures c.edge_colour.result c.edge_colour.ensures c.in_err-colour.was)

pub returns-then-colour-gt-MAX_COLOUR : goal.returns-then-colour-gt-MAX_COLOUR
returns-then-colour-gt-MAX_COLOUR c =
    colours-ninth _ _ _ _ _ _ _ _ _ _ _ c.loop-at.invariant.1 c.loop-at-test.true c.find-end.result c.find-end.ensures c.edge_colour.result c.edge_colour.ensures _ c.in_ok-colour.was c.if-colour-gt-MAX_COLOUR.true

pub overflow_add-at : goal.overflow_add-at
overflow_add-at c =
    let line-end : (c.loop-at.at ≤ c.find-end.result) × (c.find-end.result ≤ length c.args.s.now) = let s = c.args.s.now in
    let d = length-drop c.loop-at.at s in
    let u = until-le 10 (drop c.loop-at.at s) in
    let t = c.loop-at-test.true in
    let e = c.find-end.ensures in
    (omega arith, omega arith) in
    let b = line-end in
    let hi = b.1 in
    omega arith

pub loop-at-smaller : goal.loop-at-smaller
loop-at-smaller c =
    let line-end : (c.loop-at.at ≤ c.find-end.result) × (c.find-end.result ≤ length c.args.s.now) = let s = c.args.s.now in
    let d = length-drop c.loop-at.at s in
    let u = until-le 10 (drop c.loop-at.at s) in
    let t = c.loop-at-test.true in
    let e = c.find-end.ensures in
    (omega arith, omega arith) in
    let b = line-end in
    let lo = b.0 in
    let hi = b.1 in
    let t = c.loop-at-test.true in
    omega arith

pub loop-at-preserved : goal.loop-at-preserved
loop-at-preserved c = (
  search rules,
  colours-more _ _ _ _ _ _ _ _ _ _ _ c.loop-at.invariant.1 c.loop-at-test.true c.find-end.result c.find-end.ensures c.edge_colour.result c.edge_colour.ensures _ c.in_ok-colour.was c.if-colour-gt-MAX_COLOUR.false c.if-edges-ge-MAX_EDGES.false,
)

pub returns : goal.returns
returns c =
    colours-all _ _ _ _ _ _ _ _ _ _ _ c.loop-at.invariant.1 c.loop-at-test.false
