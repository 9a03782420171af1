use mathlib.Core.Path.{◌≡◌, sym, ◌∙◌}
use Prim.Native.Nat.{◌+◌}
use native.Mathlib.Omega.{arith}
use lib.ListN.{drop}
use lib.Seq.{length-take-le}
use Rattle.std.proofs.lemmas.Result.{err_from_is_err_and}
use Rattle.std.specs.Prelude.{Some}
use Rattle.sheet_fields.proofs.Slices.{rest_part}
use Rattle.sheet_fields.proofs.Cutting.{Stepped, stepped, not-stepped}
use Rattle.sheet_format.specs.Questions.{question4}
use Rattle.sheet_format.specs.Text.{fields_of}
use Rattle.sheet_rows.specs.Inner.Lines.{vertex_form, vertex_from}
use Rattle.sheet_rows.proofs.Items.{ok_or-some, ok_or-none, none-no, some-yes, line-yes, behind-no, name-no, name-yes}
use Rattle.sheet_rows.proofs.read_item.Goals as goal

pub returns-in_err-end : goal.returns-in_err-end
returns-in_err-end c =
    let p = err_from_is_err_and c.from_residual.result c.from_residual.ensures.1 in
    let n = ok_or-none c.end_of_field.result _ _ c.in_err-end.ensures.value in
    rw (p.1, p.2, n.1, not-stepped c.args.l.now 0 (sym n.0 ∙ c.end_of_field.ensures) 3)

pub overflow_add-end : goal.overflow_add-end
overflow_add-end c =
    let end : c.end_of_field.result ≡ Some c.in_ok-end.end = ok_or-some c.end_of_field.result _ _ c.in_ok-end.ensures.value in
    let named : Stepped c.args.l.now 0 c.in_ok-end.end = stepped c.args.l.now 0 c.in_ok-end.end (sym end ∙ c.end_of_field.ensures) in
    let s = named.inside in
    omega arith

pub slice_bounds-read_vertex-count : goal.slice_bounds-read_vertex-count
slice_bounds-read_vertex-count c =
    let end : c.end_of_field.result ≡ Some c.in_ok-end.end = ok_or-some c.end_of_field.result _ _ c.in_ok-end.ensures.value in
    let named : Stepped c.args.l.now 0 c.in_ok-end.end = stepped c.args.l.now 0 c.in_ok-end.end (sym end ∙ c.end_of_field.ensures) in
    let s = named.inside in
    omega arith

pub slice_bounds-read_vertex-start : goal.slice_bounds-read_vertex-start
slice_bounds-read_vertex-start c =
    let end : c.end_of_field.result ≡ Some c.in_ok-end.end = ok_or-some c.end_of_field.result _ _ c.in_ok-end.ensures.value in
    let named : Stepped c.args.l.now 0 c.in_ok-end.end = stepped c.args.l.now 0 c.in_ok-end.end (sym end ∙ c.end_of_field.ensures) in
    let s = named.inside in
    omega arith

pub slice_bounds-read_name-end : goal.slice_bounds-read_name-end
slice_bounds-read_name-end c =
    let end : c.end_of_field.result ≡ Some c.in_ok-end.end = ok_or-some c.end_of_field.result _ _ c.in_ok-end.ensures.value in
    let named : Stepped c.args.l.now 0 c.in_ok-end.end = stepped c.args.l.now 0 c.in_ok-end.end (sym end ∙ c.end_of_field.ensures) in
    let s = named.inside in
    sym (length-take-le c.in_ok-end.end c.args.l.now (omega arith))

pub returns-in_err-vertex : goal.returns-in_err-vertex
returns-in_err-vertex c =
    let end : c.end_of_field.result ≡ Some c.in_ok-end.end = ok_or-some c.end_of_field.result _ _ c.in_ok-end.ensures.value in
    let named : Stepped c.args.l.now 0 c.in_ok-end.end = stepped c.args.l.now 0 c.in_ok-end.end (sym end ∙ c.end_of_field.ensures) in
    let p = err_from_is_err_and c.from_residual-in_err-vertex.result c.from_residual-in_err-vertex.ensures.1 in
    rw (p.1, p.2) (behind-no c.args.l.now c.in_ok-end.end named _ (rw (rest_part c.args.l.now (c.in_ok-end.end + 1)) at c.in_err-vertex.ensures))

pub returns-in_err-key : goal.returns-in_err-key
returns-in_err-key c =
    let end : c.end_of_field.result ≡ Some c.in_ok-end.end = ok_or-some c.end_of_field.result _ _ c.in_ok-end.ensures.value in
    let named : Stepped c.args.l.now 0 c.in_ok-end.end = stepped c.args.l.now 0 c.in_ok-end.end (sym end ∙ c.end_of_field.ensures) in
    let l = c.args.l.now in
    let e = c.in_ok-end.end in
    let gs = fields_of (drop (e + 1) l) in
    let p = err_from_is_err_and c.from_residual-in_err-key.result c.from_residual-in_err-key.ensures.1 in
    let n = ok_or-none c.read_name.result _ _ c.in_err-key.ensures.value in
    let v = line-yes (question4 4 gs) (vertex_form gs) (vertex_from gs) c.in_ok-vertex.vertex (rw (rest_part l (e + 1)) at c.in_ok-vertex.ensures) in
    rw (p.1, p.2, n.1) (name-no l e named _ v (none-no _ _ (sym n.0 ∙ c.read_name.ensures)))

pub returns : goal.returns
returns c =
    let end : c.end_of_field.result ≡ Some c.in_ok-end.end = ok_or-some c.end_of_field.result _ _ c.in_ok-end.ensures.value in
    let named : Stepped c.args.l.now 0 c.in_ok-end.end = stepped c.args.l.now 0 c.in_ok-end.end (sym end ∙ c.end_of_field.ensures) in
    let l = c.args.l.now in
    let e = c.in_ok-end.end in
    let gs = fields_of (drop (e + 1) l) in
    let v = line-yes (question4 4 gs) (vertex_form gs) (vertex_from gs) c.in_ok-vertex.vertex (rw (rest_part l (e + 1)) at c.in_ok-vertex.ensures) in
    let k = some-yes _ _ c.in_ok-key.key (sym (ok_or-some c.read_name.result _ _ c.in_ok-key.ensures.value) ∙ c.read_name.ensures) in
    rw k.1 (name-yes l e named _ v k.0)
