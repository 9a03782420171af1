use mathlib.Core.Path.{refl, sym, ◌∙◌}
use native.Mathlib.Omega.{arith}
use lib.ListN.{drop, length-drop}
use Rattle.std.proofs.lemmas.Result.{err_from_is_err_and}
use Rattle.sheet_fields.proofs.Cutting.{until-le}
use Rattle.sheet.proofs.Whole.{rest_over, rest-header, rest-no, rest-yes}
use Rattle.sheet.proofs.read_rest.Goals as goal

pub returns-then-s-items : goal.returns-then-s-items
returns-then-s-items c = rest_over c.args.s.now c.args.items.now _ c.if-s-items.true refl

pub slice_bounds-is_second_header-end : goal.slice_bounds-is_second_header-end
slice_bounds-is_second_header-end c =
    let a = c.args in
    let d = length-drop a.items.now.at a.s.now in
    let u = until-le 10 (drop a.items.now.at a.s.now) in
    let t = c.if-s-items.false in
    let e = c.find-end.ensures in
    omega arith

pub returns-then-not-is_second_header : goal.returns-then-not-is_second_header
returns-then-not-is_second_header c =
    let a = c.args in
    rest-header a.s.now a.items.now c.if-s-items.false c.find-end.result c.find-end.ensures _ (sym c.is_second_header.ensures ∙ c.if-not-is_second_header.true) refl

pub returns-in_err-edges : goal.returns-in_err-edges
returns-in_err-edges c =
    let a = c.args in
    let p = err_from_is_err_and c.from_residual.result c.from_residual.ensures.1 in
    rw (p.1, p.2) (rest-no a.s.now a.items.now c.if-s-items.false c.find-end.result c.find-end.ensures (sym c.is_second_header.ensures ∙ c.if-not-is_second_header.false) _ c.in_err-edges.ensures)

pub returns : goal.returns
returns c =
    let a = c.args in
    rest-yes a.s.now a.items.now c.if-s-items.false c.find-end.result c.find-end.ensures (sym c.is_second_header.ensures ∙ c.if-not-is_second_header.false) c.in_ok-edges.edges c.in_ok-edges.ensures
