use mathlib.Core.Path.{◌≡◌, refl, ◌∙◌}
use borrow.Author.Rules.{rules}
use Prim.Native.Nat.{suc, ◌≤◌, ◌<◌}
use native.Mathlib.Omega.{arith}
use lib.ListN.{length}
use Rattle.sheet_format.specs.Text.{lines_of}
use Rattle.sheet_fields.proofs.Cutting.{until-le}
use Rattle.sheet_lines.proofs.Keys.{keys_none, row_at, row-key, keys-more, keys-all}
use Rattle.sheet_lines.proofs.item_keys.keys_of.Goals as goal

pub overflow_add-at : goal.overflow_add-at
overflow_add-at c = let u = until-le 10 c.args.s.now in omega (arith, c.find-at.ensures)

pub loop-v-init : goal.loop-v-init
loop-v-init c =
    let u = c.requires.lines in
    (refl, keys_none _ _ _ _ _ (search rules) (search rules) (search rules) (omega arith) c.find-at.ensures)

pub slice_bounds-row_key-count : goal.slice_bounds-row_key-count
slice_bounds-row_key-count c =
    let more : suc c.loop-v.v < length (lines_of c.args.s.now) = let u = c.requires.lines in omega arith in
    let bounds : (c.loop-v.at ≤ c.find-end.result) × (c.find-end.result ≤ length c.args.s.now) = let r = row_at _ _ _ _ _ _ _ c.loop-v.invariant.1 more c.find-end.ensures in (r.order, r.inside) in
    bounds.0

pub slice_bounds-row_key-start : goal.slice_bounds-row_key-start
slice_bounds-row_key-start c =
    let more : suc c.loop-v.v < length (lines_of c.args.s.now) = let u = c.requires.lines in omega arith in
    let bounds : (c.loop-v.at ≤ c.find-end.result) × (c.find-end.result ≤ length c.args.s.now) = let r = row_at _ _ _ _ _ _ _ c.loop-v.invariant.1 more c.find-end.ensures in (r.order, r.inside) in
    bounds.0

pub slice_bounds-row_key-end : goal.slice_bounds-row_key-end
slice_bounds-row_key-end c =
    let more : suc c.loop-v.v < length (lines_of c.args.s.now) = let u = c.requires.lines in omega arith in
    let bounds : (c.loop-v.at ≤ c.find-end.result) × (c.find-end.result ≤ length c.args.s.now) = let r = row_at _ _ _ _ _ _ _ c.loop-v.invariant.1 more c.find-end.ensures in (r.order, r.inside) in
    bounds.1

pub overflow_add-at-in-loop-v : goal.overflow_add-at-in-loop-v
overflow_add-at-in-loop-v c =
    let more : suc c.loop-v.v < length (lines_of c.args.s.now) = let u = c.requires.lines in omega arith in
    let bounds : (c.loop-v.at ≤ c.find-end.result) × (c.find-end.result ≤ length c.args.s.now) = let r = row_at _ _ _ _ _ _ _ c.loop-v.invariant.1 more c.find-end.ensures in (r.order, r.inside) in
    let b = bounds in let hi = b.1 in omega arith

pub loop-v-preserved : goal.loop-v-preserved
loop-v-preserved c =
    let more : suc c.loop-v.v < length (lines_of c.args.s.now) = let u = c.requires.lines in omega arith in
    let p = c.push.ensures in
    let i = c.loop-v.invariant.0 in (
      omega (arith, p.count),
      rw (p.low, p.high, i)
          (keys-more _ _ _ _ _ _ _ c.loop-v.invariant.1 more c.find-end.ensures c.row_key-key.result (let f = c.requires.few in omega arith) (row-key _ _ c.row_key-key.ensures)),
    )

pub returns : goal.returns
returns c =
    let e : c.loop-v.v ≡ c.args.count = omega arith in
    keys-all _ _ _ _ _ c.requires.few (c.loop-v.invariant.0 ∙ e) (rw e at c.loop-v.invariant.1)
