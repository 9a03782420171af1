-- `pool_text::put_edge` meets its contract: what stands before the colour, the digit, and what stands behind.
use mathlib.Core.Path.{sym}
use Prim.Native.Nat.{◌-◌}
use native.Mathlib.Omega.{arith}
use lib.ListN.{length}
use lib.Seq.{length-take-le}
use Rattle.pool_text.proofs.Rows.{digit-first, digit_room, digit-penned}
use Rattle.pool_text.proofs.put_edge.Goals as goal

pub slice_bounds-put_field-end : goal.slice_bounds-put_field-end
slice_bounds-put_field-end c =
    let l = c.args.line.now in
    sym (length-take-le (length l - 3) l (omega arith))

pub put_field-requires : goal.put_field-requires
put_field-requires c =
    digit-first c.args.line.now c.args.digit c.args.pen.now c.requires.1

pub overflow_add-split : goal.overflow_add-split
overflow_add-split c =
    let l = c.requires.0 in
    omega arith

pub slice_bounds-put_field-count : goal.slice_bounds-put_field-count
slice_bounds-put_field-count c =
    let l = c.requires.0 in
    omega arith

pub slice_bounds-put_field-start : goal.slice_bounds-put_field-start
slice_bounds-put_field-start c =
    let l = c.requires.0 in
    omega arith

pub put_field-requires-2 : goal.put_field-requires-2
put_field-requires-2 c = digit_room c.args.line.now c.args.digit _ _ c.put_field.ensures c.requires.1

pub returns : goal.returns
returns c =
    digit-penned c.args.line.now c.args.digit _ _ c.put_field.ensures _ c.put_field-2.ensures
