use mathlib.Core.Path.{◌≡◌, sym, ◌∙◌}
use Prim.Native.Nat.{◌+◌}
use lib.ListN.{drop, length-drop}
use Rattle.std.proofs.Common.{arith, rules}
use Rattle.std.proofs.lemmas.Result.{err_from_is_err_and}
use Rattle.sheet_fields.proofs.Cutting.{until-le}
use Rattle.sheet_lines.proofs.Refusing.{mapped-no, mapped-yes}
use Rattle.setup.specs.Setup.{empty_graph}
use Rattle.sheet_edges.proofs.EdgeRows.{so-far-none, over, refused-row, repeated-row, full-row, taken-row}
use Rattle.sheet_edges.proofs.read_edges.Goals as goal

pub loop-at-init : goal.loop-at-init
unfolding empty_graph
loop-at-init c = record { most = omega arith; rows = λ items t. so-far-none c.args.s.now c.args.start c.args.first items }

pub slice_bounds-take_edge-end : goal.slice_bounds-take_edge-end
slice_bounds-take_edge-end c =
    let s = c.args.s.now in
    let d = length-drop c.loop-at.at s in
    let u = until-le 10 (drop c.loop-at.at s) in
    let t = c.loop-at-test.true in
    let e = c.find-end.ensures in
    omega arith

pub returns-in_err-edge : goal.returns-in_err-edge
returns-in_err-edge c =
    let a = c.args in
    let p = err_from_is_err_and c.from_residual.result c.from_residual.ensures.1 in
    let m = mapped-no c.take_edge.result c.map_err.result _ (λ e d. d ≡ record { refusal = e; line = a.first + c.loop-at.count }) (λ e d h. search rules) c.map_err.ensures.cases _ c.in_err-edge.was in
    rw (p.1, p.2, m.2) (λ items b. refused-row a.s.now a.start a.first items a.keys.now.low a.keys.now.high a.keys.now.count _ _ _ _ (c.loop-at.invariant.rows items b) b
    c.loop-at-test.true c.find-end.result c.find-end.ensures c.take_edge.result c.take_edge.ensures m.0 m.1)

pub returns-then-has_need : goal.returns-then-has_need
returns-then-has_need c = λ items b.
    let a = c.args in
    repeated-row a.s.now a.start a.first items a.keys.now.low a.keys.now.high a.keys.now.count _ _ _ _ (c.loop-at.invariant.rows items b) b
    c.loop-at-test.true c.find-end.result c.find-end.ensures c.take_edge.result c.take_edge.ensures
    c.in_ok-edge.edge (mapped-yes c.take_edge.result c.map_err.result _ c.map_err.ensures.cases _ c.in_ok-edge.was) (sym c.has_need.ensures ∙ c.if-has_need.true)

pub returns-then-count-ge-MAX_EDGES : goal.returns-then-count-ge-MAX_EDGES
returns-then-count-ge-MAX_EDGES c = λ items b.
    let a = c.args in
    full-row a.s.now a.start a.first items a.keys.now.low a.keys.now.high a.keys.now.count _ _ _ _ (c.loop-at.invariant.rows items b) b
    c.loop-at-test.true c.find-end.result c.find-end.ensures c.take_edge.result c.take_edge.ensures
    c.in_ok-edge.edge (mapped-yes c.take_edge.result c.map_err.result _ c.map_err.ensures.cases _ c.in_ok-edge.was) (sym c.has_need.ensures ∙ c.if-has_need.false) c.if-count-ge-MAX_EDGES.true

pub loop-at-preserved : goal.loop-at-preserved
loop-at-preserved c =
    let a = c.args in
    let less = c.if-count-ge-MAX_EDGES.false in
    let few = a.keys.now.few in
    record {
      most = omega arith;
      rows = λ items b. rw (c.with_need.ensures, c.with_mark.ensures)
          (taken-row a.s.now a.start a.first items a.keys.now.low a.keys.now.high a.keys.now.count _ _ _ _ (c.loop-at.invariant.rows items b) b
          c.loop-at-test.true c.find-end.result c.find-end.ensures c.take_edge.result c.take_edge.ensures
          c.in_ok-edge.edge (mapped-yes c.take_edge.result c.map_err.result _ c.map_err.ensures.cases _ c.in_ok-edge.was) (sym c.has_need.ensures ∙ c.if-has_need.false) few less);
    }

pub returns : goal.returns
returns c = λ items b. let a = c.args in over a.s.now a.start a.first items _ _ _ _ (c.loop-at.invariant.rows items b) c.loop-at-test.false
