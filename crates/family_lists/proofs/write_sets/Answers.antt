-- `family_lists::write_sets` meets its contract. The two tables give set numbers, and the list of the members by size is the list of their sets.
-- Assumes nothing.
use mathlib.Core.Path.{◌≡◌}
use Prim.Native.Nat.{◌^◌, ◌<◌}
use Rattle.family_lists.proofs.SetLists.{front_whole, number_fits, wrote-sets}
use borrow.Author.Rules.{rules}
use Rattle.family_lists.proofs.write_sets.Goals as goal

pub of-sums-requires : goal.of-sums-requires
of-sums-requires c =
    let small : c.args.chosen.0 < 2 ^ 64 = search rules in
    number_fits _ c.singles-values.ensures.each c.args.chosen.0 small c.weights_of-weights.result c.weights_of-weights.ensures

pub put_all-requires : goal.put_all-requires
put_all-requires c =
    let whole : c.unwrap.result.now ≡ c.args.f.now = front_whole _ _ (search rules) c.requires.words in
    rw whole c.requires.room

pub returns : goal.returns
returns c =
    let small : c.args.chosen.0 < 2 ^ 64 = search rules in
    let whole : c.unwrap.result.now ≡ c.args.f.now = front_whole _ _ (search rules) c.requires.words in
    wrote-sets _ c.singles-values.ensures.each c.args.chosen.0 small c.weights_of-weights.result c.weights_of-weights.ensures
    c.args.f.now c.args.out.now _ _ c.put_all.result _ c.requires.words (λ i. search rules)
    c.requires.exact c.requires.room c.of-sums.ensures.low_sums c.of-sums.ensures.high_sums (rw whole at c.put_all.ensures)
