use Rattle.sheet_fields.proofs.Cutting.{until-le}
use borrow.Author.Rules.{rules}
use mathlib.Core.Path.{◌≡◌}
use mathlib.Core.Bool.{true}
use Prim.Native.Nat.{suc, ◌-◌, ◌≤◌, ◌<◌}
use Rattle.sheet_format.specs.Text.{lines_of}
use Rattle.sheet_format.specs.Names.{has_item}
use native.Mathlib.Omega.{arith}
use lib.ListN.{length, take, drop, length-take}
use Rattle.report_facts.proofs.Places.{names-none, line-stops, names_more}
use Rattle.report_facts.proofs.names.name_places.Goals as goal

pub overflow_add-at : goal.overflow_add-at
overflow_add-at c = let u = until-le 10 c.args.sheet.now in omega (arith, c.find-at.ensures)

pub loop-v-init : goal.loop-v-init
loop-v-init c =
    let u = c.requires.lines in
    (omega arith, names-none _ _ _ _ (search rules) (search rules) (omega arith) c.find-at.ensures)

pub slice_bounds-find-end : goal.slice_bounds-find-end
slice_bounds-find-end c =
    let more : suc c.loop-v.v < length (lines_of c.args.sheet.now) = let u = c.requires.lines in omega arith in
    let bounds : (c.loop-v.at ≤ c.find-stop.result) × (c.find-stop.result ≤ length c.args.sheet.now) = line-stops _ _ _ _ _ c.loop-v.invariant.1 more _ c.find-stop.ensures in
    bounds.1

pub overflow_add-to : goal.overflow_add-to
overflow_add-to c =
    let more : suc c.loop-v.v < length (lines_of c.args.sheet.now) = let u = c.requires.lines in omega arith in
    let bounds : (c.loop-v.at ≤ c.find-stop.result) × (c.find-stop.result ≤ length c.args.sheet.now) = line-stops _ _ _ _ _ c.loop-v.invariant.1 more _ c.find-stop.ensures in
    let b = bounds in
    let lo = b.0 in
    let hi = b.1 in
    let u = until-le 32 (take (c.find-stop.result - c.loop-v.at) (drop c.loop-v.at c.args.sheet.now)) in
    let t = length-take (c.find-stop.result - c.loop-v.at) (drop c.loop-v.at c.args.sheet.now) in
    omega (arith, c.find.ensures)

pub overflow_add-at-in-loop-v : goal.overflow_add-at-in-loop-v
overflow_add-at-in-loop-v c =
    let more : suc c.loop-v.v < length (lines_of c.args.sheet.now) = let u = c.requires.lines in omega arith in
    let bounds : (c.loop-v.at ≤ c.find-stop.result) × (c.find-stop.result ≤ length c.args.sheet.now) = line-stops _ _ _ _ _ c.loop-v.invariant.1 more _ c.find-stop.ensures in
    let b = bounds in
    let hi = b.1 in
    omega arith

pub loop-v-preserved : goal.loop-v-preserved
loop-v-preserved c =
    let more : suc c.loop-v.v < length (lines_of c.args.sheet.now) = let u = c.requires.lines in omega arith in
    let there : has_item c.args.sheet.now c.loop-v.v ≡ true = c.requires.items c.loop-v.v (omega arith) in
    (search rules, names_more _ _ _ _ _ c.loop-v.invariant.1 more _ _ (search rules) there c.find-stop.ensures c.find.ensures)
