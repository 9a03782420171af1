-- `pooling::plan_of` meets its contract: agreement, bounds and colours, in this order.
use native.Mathlib.Omega.{arith}
use mathlib.Core.Path.{refl, ◌∙◌}
use Prim.Native.Nat.{◌+◌, ◌≤◌}
use lib.ListN.{length, get_or}
use Rattle.sheet_lines.proofs.Accepted.{lines-there}
use Rattle.pooling.proofs.Calls.{text-short, start-there, both_read, bytes_small}
use Rattle.pooling.proofs.Plans.{both-start, plan-disagrees, plan-beyond, plan-ninth, plan-ready}
use Rattle.pooling.proofs.plan_of.Goals as goal

pub keys_of-own-requires : goal.keys_of-own-requires
keys_of-own-requires c = lines-there _ _ c.requires.0

pub keys_of-keys-requires : goal.keys_of-keys-requires
keys_of-keys-requires c = lines-there _ _ c.requires.1

pub returns-then-not-all_agree : goal.returns-then-not-all_agree
returns-then-not-all_agree c = plan-disagrees _ _ _ _ c.keys_of-own.result c.keys_of-keys.result c.of-shared.result c.requires c.keys_of-own.ensures c.keys_of-keys.ensures c.of-shared.ensures.places (c.of-shared.ensures.count ∙ c.keys_of-keys.ensures.size) c.all_agree.result c.all_agree.ensures c.if-not-all_agree.true

pub bounds_of-requires : goal.bounds_of-requires
bounds_of-requires c = record { both = both_read _ _ _ _ c.keys_of-own.result c.keys_of-keys.result _ c.requires c.keys_of-own.ensures c.keys_of-keys.ensures c.of-shared.ensures.places; count = c.of-shared.ensures.count ∙ c.keys_of-keys.ensures.size }

pub returns-in_default : goal.returns-in_default
returns-in_default c =
    plan-beyond _ _ _ _ c.keys_of-own.result c.keys_of-keys.result c.of-shared.result c.requires c.keys_of-own.ensures c.keys_of-keys.ensures c.of-shared.ensures.places (c.of-shared.ensures.count ∙ c.keys_of-keys.ensures.size) c.all_agree.result c.all_agree.ensures c.if-not-all_agree.false c.bounds_of.result c.bounds_of.ensures c.in_default.is

pub offset_bounds-keys-b : goal.offset_bounds-keys-b
offset_bounds-keys-b c =
    let begins : (get_or c.keys_of-keys.result.from c.args.b.now.count 0 + 20 ≤ length c.args.second.now) × (c.args.b.now.count ≤ 64) = let p = c.requires in
    let r = both-start _ _ _ _ c.keys_of-own.result c.keys_of-keys.result c.of-shared.result c.requires c.keys_of-own.ensures c.keys_of-keys.ensures c.of-shared.ensures.places (c.of-shared.ensures.count ∙ c.keys_of-keys.ensures.size) in
    (start-there _ _ _ p.1 r.1, (lines-there _ _ p.1).few) in
    let b = begins.1 in omega arith

pub bounds-keys-b : goal.bounds-keys-b
bounds-keys-b c =
    let begins : (get_or c.keys_of-keys.result.from c.args.b.now.count 0 + 20 ≤ length c.args.second.now) × (c.args.b.now.count ≤ 64) = let p = c.requires in
    let r = both-start _ _ _ _ c.keys_of-own.result c.keys_of-keys.result c.of-shared.result c.requires c.keys_of-own.ensures c.keys_of-keys.ensures c.of-shared.ensures.places (c.of-shared.ensures.count ∙ c.keys_of-keys.ensures.size) in
    (start-there _ _ _ p.1 r.1, (lines-there _ _ p.1).few) in
    let b = begins.1 in omega arith

pub overflow_add-start : goal.overflow_add-start
overflow_add-start c =
    let begins : (get_or c.keys_of-keys.result.from c.args.b.now.count 0 + 20 ≤ length c.args.second.now) × (c.args.b.now.count ≤ 64) = let p = c.requires in
    let r = both-start _ _ _ _ c.keys_of-own.result c.keys_of-keys.result c.of-shared.result c.requires c.keys_of-own.ensures c.keys_of-keys.ensures c.of-shared.ensures.places (c.of-shared.ensures.count ∙ c.keys_of-keys.ensures.size) in
    (start-there _ _ _ p.1 r.1, (lines-there _ _ p.1).few) in
    let b = begins.0 in
    let t = text-short _ _ c.requires.1 in
    omega arith

pub returns-in_default-colours_of : goal.returns-in_default-colours_of
returns-in_default-colours_of c =
    plan-ninth _ _ _ _ c.keys_of-own.result c.keys_of-keys.result c.of-shared.result c.requires c.keys_of-own.ensures c.keys_of-keys.ensures c.of-shared.ensures.places (c.of-shared.ensures.count ∙ c.keys_of-keys.ensures.size) c.all_agree.result c.all_agree.ensures c.if-not-all_agree.false c.bounds_of.result c.bounds_of.ensures c.in-Some.bytes c.in-Some.is _ refl c.colours_of.result c.colours_of.ensures c.in_default-colours_of.is

pub overflow_add-parts : goal.overflow_add-parts
overflow_add-parts c =
    let y = bytes_small _ _ _ _ _ _ _ c.bounds_of.result c.in-Some.bytes (both_read _ _ _ _ c.keys_of-own.result c.keys_of-keys.result _ c.requires c.keys_of-own.ensures c.keys_of-keys.ensures c.of-shared.ensures.places) c.bounds_of.ensures c.in-Some.is in
    let t = text-short _ _ c.requires.0 in
    omega arith

pub overflow_sub-rows : goal.overflow_sub-rows
overflow_sub-rows c =
    let begins : (get_or c.keys_of-keys.result.from c.args.b.now.count 0 + 20 ≤ length c.args.second.now) × (c.args.b.now.count ≤ 64) = let p = c.requires in
    let r = both-start _ _ _ _ c.keys_of-own.result c.keys_of-keys.result c.of-shared.result c.requires c.keys_of-own.ensures c.keys_of-keys.ensures c.of-shared.ensures.places (c.of-shared.ensures.count ∙ c.keys_of-keys.ensures.size) in
    (start-there _ _ _ p.1 r.1, (lines-there _ _ p.1).few) in
    begins.0

pub overflow_add-size : goal.overflow_add-size
overflow_add-size c =
    let y = bytes_small _ _ _ _ _ _ _ c.bounds_of.result c.in-Some.bytes (both_read _ _ _ _ c.keys_of-own.result c.keys_of-keys.result _ c.requires c.keys_of-own.ensures c.keys_of-keys.ensures c.of-shared.ensures.places) c.bounds_of.ensures c.in-Some.is in
    let t = text-short _ _ c.requires.0 in
    let u = text-short _ _ c.requires.1 in
    omega arith

pub offset_bounds-own-a : goal.offset_bounds-own-a
offset_bounds-own-a c = let f = (lines-there _ _ c.requires.0).few in omega arith

pub bounds-own-a : goal.bounds-own-a
bounds-own-a c = let f = (lines-there _ _ c.requires.0).few in omega arith

pub returns : goal.returns
returns c =
    plan-ready _ _ _ _ c.keys_of-own.result c.keys_of-keys.result c.of-shared.result c.requires c.keys_of-own.ensures c.keys_of-keys.ensures c.of-shared.ensures.places (c.of-shared.ensures.count ∙ c.keys_of-keys.ensures.size) c.all_agree.result c.all_agree.ensures c.if-not-all_agree.false c.bounds_of.result c.bounds_of.ensures c.in-Some.bytes c.in-Some.is _ refl c.colours_of.result c.colours_of.ensures _ _ c.in-Some-colours_of.digits c.in-Some-colours_of.is refl refl
