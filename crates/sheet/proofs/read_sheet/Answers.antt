use mathlib.Core.Path.{refl, sym, ◌∙◌}
use Prim.Native.Nat.{◌≤◌}
use native.Mathlib.Omega.{arith}
use lib.ListN.{length}
use lib.Seq.{length-take-le}
use Rattle.std.proofs.lemmas.Result.{err_from_is_err_and}
use Rattle.sheet_fields.proofs.Cutting.{until-le}
use Rattle.sheet.proofs.Whole.{too_long, no_text, no_header, no_item, all_read}
use Rattle.sheet.proofs.read_sheet.Goals as goal

pub returns-then-sheet-gt-MAX_BYTES : goal.returns-then-sheet-gt-MAX_BYTES
returns-then-sheet-gt-MAX_BYTES c = too_long c.args.sheet.now _ c.if-sheet-gt-MAX_BYTES.true refl

pub returns-then-not-is_text : goal.returns-then-not-is_text
returns-then-not-is_text c = no_text c.args.sheet.now _ c.if-sheet-gt-MAX_BYTES.false (sym c.is_text.ensures ∙ c.if-not-is_text.true) refl

pub slice_bounds-is_first_header-end : goal.slice_bounds-is_first_header-end
slice_bounds-is_first_header-end c =
    let line-end : c.find-end.result ≤ length c.args.sheet.now = let u = until-le 10 c.args.sheet.now in
    let e = c.find-end.ensures in
    omega arith in
    sym (length-take-le c.find-end.result c.args.sheet.now line-end)

pub returns-then-not-is_first_header : goal.returns-then-not-is_first_header
returns-then-not-is_first_header c =
    no_header c.args.sheet.now c.if-sheet-gt-MAX_BYTES.false (sym c.is_text.ensures ∙ c.if-not-is_text.false) c.find-end.result c.find-end.ensures
    _ (sym c.is_first_header.ensures ∙ c.if-not-is_first_header.true) refl

pub overflow_add-end : goal.overflow_add-end
overflow_add-end c = let u = until-le 10 c.args.sheet.now in let e = c.find-end.ensures in omega arith

pub returns-in_err-items : goal.returns-in_err-items
returns-in_err-items c =
    let p = err_from_is_err_and c.from_residual.result c.from_residual.ensures.1 in
    rw (p.1, p.2) (no_item c.args.sheet.now c.if-sheet-gt-MAX_BYTES.false (sym c.is_text.ensures ∙ c.if-not-is_text.false) c.find-end.result c.find-end.ensures
    (sym c.is_first_header.ensures ∙ c.if-not-is_first_header.false) _ c.in_err-items.ensures)

pub returns : goal.returns
returns c =
    all_read c.args.sheet.now c.if-sheet-gt-MAX_BYTES.false (sym c.is_text.ensures ∙ c.if-not-is_text.false) c.find-end.result c.find-end.ensures
    (sym c.is_first_header.ensures ∙ c.if-not-is_first_header.false) c.in_ok-items.items c.in_ok-items.ensures _ c.read_rest.ensures
