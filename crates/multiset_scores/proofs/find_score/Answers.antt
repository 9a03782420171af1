-- `multiset_scores::find_score` meets its contract: the masks of the access base's sets in order, the lowest of them, and their sets.
-- Assumes nothing.
use mathlib.Core.Path.{◌∙◌}
use Prim.Native.Nat.{◌^◌, ◌<◌}
use borrow.Author.Rules.{rules}
use Rattle.multiset_scores.proofs.Finding.{can-list, can-compare, few-left, score-found}
use Rattle.multiset_scores.proofs.find_score.Goals as goal

pub write_sets-n-requires : goal.write_sets-n-requires
write_sets-n-requires c =
    let word : c.args.initial.0 < 2 ^ 64 = search rules in
    can-list c.args.s c.args.target c.args.initial.0 c.requires.asked.formed word _ c.base_family.result c.base_family.ensures _ c.requires.room

pub lowest_of-left-requires : goal.lowest_of-left-requires
lowest_of-left-requires c =
    let word : c.args.initial.0 < 2 ^ 64 = search rules in
    can-compare c.args.s c.args.target c.args.initial.0 c.requires.asked.formed word _ c.base_family.result c.base_family.ensures _ c.write_sets-n.result _ c.write_sets-n.ensures

pub name_sets-requires : goal.name_sets-requires
name_sets-requires c =
    let word : c.args.initial.0 < 2 ^ 64 = search rules in
    let r = c.requires.room in
    let few = few-left c.args.s c.args.target c.args.initial.0 c.requires.asked.formed word _ c.base_family.result c.base_family.ensures _ c.write_sets-n.result _
    c.write_sets-n.ensures c.args.points _ c.lowest_of-left.result c.lowest_of-left.ensures in
    search rules

pub returns : goal.returns
returns c =
    let word : c.args.initial.0 < 2 ^ 64 = search rules in
    score-found c.args.s c.args.target c.args.initial.0 c.requires.asked.formed word _ c.base_family.result c.base_family.ensures _ c.write_sets-n.result _
    c.write_sets-n.ensures c.args.points c.requires.values c.requires.is_chosen _ _ c.lowest_of-left.result (c.name_sets.auto.kept ∙ c.lowest_of-left.auto.kept ∙ c.write_sets-n.auto.out ∙ c.requires.room) c.lowest_of-left.ensures c.name_sets.ensures
