use Prim.Native.Nat.{◌^◌, ◌<◌}
use native.Mathlib.Omega.{arith}
use Rattle.family_lists.proofs.Order.{Words}
use Rattle.marking.specs.Inner.Counting.{Seen}
use Rattle.marking.proofs.Seeing.{seen_none}
use Rattle.marking.proofs.Tallies.{right_le, opening-le, different-le, marked_all}
use borrow.Author.Rules.{rules}
use Rattle.marking.proofs.mark_all.Goals as goal

pub see_all-requires : goal.see_all-requires
see_all-requires c = record { chosen_bound = search rules; seen = seen_none c.args.chosen.0 }

pub overflow_add-different : goal.overflow_add-different
overflow_add-different c =
    let a = c.args in
    let chosen = a.chosen.0 in
    let family = a.family.now in
    let minimal = a.minimal.now in
    let handed = a.handed.now in
    let seen = c.see_all.new.seen in
    let small : chosen < 2 ^ 64 = search rules in
    let words : Words handed = λ i. (c.type_inv.handed i).fits in
    let is : Seen chosen handed seen = c.see_all.ensures in
    let e = c.count_members-inside.ensures.count in
    let h = different-le chosen family minimal handed seen c.count_outsiders-outsiders.result small c.requires (search rules) (search rules) words is c.count_members-inside.ensures.words c.count_outsiders-outsiders.ensures in
    let g = c.well_formed.0 in
    search rules

pub overflow_sub-result : goal.overflow_sub-result
overflow_sub-result c =
    let a = c.args in
    let chosen = a.chosen.0 in
    let family = a.family.now in
    let minimal = a.minimal.now in
    let handed = a.handed.now in
    let seen = c.see_all.new.seen in
    let small : chosen < 2 ^ 64 = search rules in
    let words : Words handed = λ i. (c.type_inv.handed i).fits in
    let is : Seen chosen handed seen = c.see_all.ensures in
    let e = c.count_members-inside.ensures.count in
    let h = different-le chosen family minimal handed seen c.count_outsiders-outsiders.result small c.requires (search rules) (search rules) words is c.count_members-inside.ensures.words c.count_outsiders-outsiders.ensures in
    omega arith

pub overflow_sub-result-2 : goal.overflow_sub-result-2
overflow_sub-result-2 c =
    let a = c.args in
    let chosen = a.chosen.0 in
    let family = a.family.now in
    let minimal = a.minimal.now in
    let handed = a.handed.now in
    let seen = c.see_all.new.seen in
    let small : chosen < 2 ^ 64 = search rules in
    let words : Words handed = λ i. (c.type_inv.handed i).fits in
    let is : Seen chosen handed seen = c.see_all.ensures in
    let e = c.count_members-inside.ensures.count in
    let f = c.count_common-opening.ensures in
    let h = opening-le chosen family minimal handed seen c.count_outsiders-outsiders.result small c.requires (search rules) (search rules) words is c.count_members-inside.ensures.words c.count_outsiders-outsiders.ensures in
    omega arith

pub overflow_sub-result-3 : goal.overflow_sub-result-3
overflow_sub-result-3 c =
    let a = c.args in
    let chosen = a.chosen.0 in
    let family = a.family.now in
    let minimal = a.minimal.now in
    let handed = a.handed.now in
    let seen = c.see_all.new.seen in
    let small : chosen < 2 ^ 64 = search rules in
    let words : Words handed = λ i. (c.type_inv.handed i).fits in
    let is : Seen chosen handed seen = c.see_all.ensures in
    let e = c.count_common-right.ensures in
    let f = c.count_common-opening.ensures in
    let h = right_le chosen family minimal handed seen c.count_outsiders-outsiders.result small c.requires (search rules) (search rules) words is c.count_members-inside.ensures.words c.count_outsiders-outsiders.ensures in
    omega arith

pub returns : goal.returns
returns c =
    let a = c.args in
    let chosen = a.chosen.0 in
    let family = a.family.now in
    let minimal = a.minimal.now in
    let handed = a.handed.now in
    let seen = c.see_all.new.seen in
    let small : chosen < 2 ^ 64 = search rules in
    let words : Words handed = λ i. (c.type_inv.handed i).fits in
    let is : Seen chosen handed seen = c.see_all.ensures in
    rw (c.count_common-right.ensures, c.count_common-opening.ensures, c.count_members-inside.ensures.count)
    (marked_all chosen family minimal handed seen c.count_outsiders-outsiders.result small c.requires (search rules) (search rules) words is c.count_members-inside.ensures.words c.count_outsiders-outsiders.ensures)
