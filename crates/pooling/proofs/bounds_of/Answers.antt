-- `pooling::bounds_of` meets its contract: items counted, lines counted, and the bounds asked.
use native.Mathlib.Omega.{arith}
use Prim.Native.Nat.{◌+◌, ◌≤◌}
use Rattle.sheet_lines.proofs.Accepted.{lines-there}
use Rattle.pooling.proofs.Calls.{rows-rise, lines-enough, edges-small, sums-small, bounds-held, bounds-broken}
use Rattle.pooling.proofs.bounds_of.Goals as goal

pub none-requires : goal.none-requires
none-requires c = (lines-there _ _ c.requires.both.accepts_first).few

pub count_remaining-own-requires : goal.count_remaining-own-requires
count_remaining-own-requires c =
    let p = c.requires in
    rw c.none.ensures.count (rows-rise _ _ _ p.both.accepts_first p.both.starts_first)

pub count_remaining-more-requires : goal.count_remaining-more-requires
count_remaining-more-requires c =
    let p = c.requires in
    rw c.requires.count (rows-rise _ _ _ p.both.accepts_second p.both.starts_second)

pub overflow_sub-rows : goal.overflow_sub-rows
overflow_sub-rows c =
    let p = c.requires in
    let l = (lines-enough _ _ p.both.accepts_first).0 in
    omega (arith, c.count_lines.ensures)

pub overflow_sub-rows-2 : goal.overflow_sub-rows-2
overflow_sub-rows-2 c =
    let p = c.requires in
    let l = (lines-enough _ _ p.both.accepts_first).1 in
    omega (arith, c.count_lines.ensures)

pub overflow_sub-other_rows : goal.overflow_sub-other_rows
overflow_sub-other_rows c =
    let p = c.requires in
    let l = (lines-enough _ _ p.both.accepts_second).0 in
    omega (arith, c.count_lines-2.ensures)

pub overflow_sub-other_rows-2 : goal.overflow_sub-other_rows-2
overflow_sub-other_rows-2 c =
    let p = c.requires in
    let l = (lines-enough _ _ p.both.accepts_second).1 in
    omega (arith, c.count_lines-2.ensures)

pub overflow_add-own : goal.overflow_add-own
overflow_add-own c =
    let small : (c.count_remaining-own.result.items + c.count_remaining-more.result.items ≤ 128) × (c.count_remaining-own.result.starts + c.count_remaining-more.result.starts ≤ 28) × (c.count_remaining-own.result.losses + c.count_remaining-more.result.losses ≤ 28) = sums-small _ _ _ _ _ _ _ c.requires.both c.count_remaining-own.result c.count_remaining-more.result (rw (c.none.ensures.count, c.none.ensures.places) at c.count_remaining-own.ensures) (rw c.requires.count at c.count_remaining-more.ensures) in
    let s = small.0 in
    omega arith

pub overflow_add-own-2 : goal.overflow_add-own-2
overflow_add-own-2 c =
    let small : (c.count_remaining-own.result.items + c.count_remaining-more.result.items ≤ 128) × (c.count_remaining-own.result.starts + c.count_remaining-more.result.starts ≤ 28) × (c.count_remaining-own.result.losses + c.count_remaining-more.result.losses ≤ 28) = sums-small _ _ _ _ _ _ _ c.requires.both c.count_remaining-own.result c.count_remaining-more.result (rw (c.none.ensures.count, c.none.ensures.places) at c.count_remaining-own.ensures) (rw c.requires.count at c.count_remaining-more.ensures) in
    let s = small.1 in
    omega arith

pub overflow_add-own-3 : goal.overflow_add-own-3
overflow_add-own-3 c =
    let small : (c.count_remaining-own.result.items + c.count_remaining-more.result.items ≤ 128) × (c.count_remaining-own.result.starts + c.count_remaining-more.result.starts ≤ 28) × (c.count_remaining-own.result.losses + c.count_remaining-more.result.losses ≤ 28) = sums-small _ _ _ _ _ _ _ c.requires.both c.count_remaining-own.result c.count_remaining-more.result (rw (c.none.ensures.count, c.none.ensures.places) at c.count_remaining-own.ensures) (rw c.requires.count at c.count_remaining-more.ensures) in
    let s = small.2 in
    omega arith

pub overflow_add-rows : goal.overflow_add-rows
overflow_add-rows c =
    let p = c.requires in
    let s = edges-small _ _ _ p.both.accepts_first c.count_lines.ensures in
    let t = edges-small _ _ _ p.both.accepts_second c.count_lines-2.ensures in
    omega arith

pub returns-then-ok : goal.returns-then-ok
returns-then-ok c =
    bounds-held _ _ _ _ _ _ _ c.requires.both c.count_remaining-own.result c.count_remaining-more.result (rw (c.none.ensures.count, c.none.ensures.places) at c.count_remaining-own.ensures) (rw c.requires.count at c.count_remaining-more.ensures)
    _ _ c.count_lines.ensures c.count_lines-2.ensures _ c.in_bounds-ok.ensures c.if-ok.true

pub returns : goal.returns
returns c =
    bounds-broken _ _ _ _ _ _ _ c.requires.both c.count_remaining-own.result c.count_remaining-more.result (rw (c.none.ensures.count, c.none.ensures.places) at c.count_remaining-own.ensures) (rw c.requires.count at c.count_remaining-more.ensures)
    _ _ c.count_lines.ensures c.count_lines-2.ensures _ c.in_bounds-ok.ensures c.if-ok.false
