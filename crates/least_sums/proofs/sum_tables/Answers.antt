-- `least_sums::sum_tables` meets its contract. The two tables give the sums of the weights at a mask's bits, and so of its set's values.
-- Assumes nothing.
use Prim.Native.Nat.{◌^◌, ◌<◌}
use borrow.Author.Rules.{rules}
use Rattle.least_sums.proofs.Least.{value-fits, value-tables}
use Rattle.least_sums.proofs.sum_tables.Goals as goal

pub of-requires : goal.of-requires
of-requires c =
    let small : c.args.chosen.0 < 2 ^ 64 = search rules in
    value-fits c.args.chosen.0 _ small c.requires c.weights_of-weights.result c.weights_of-weights.ensures

pub returns : goal.returns
returns c =
    let small : c.args.chosen.0 < 2 ^ 64 = search rules in
    value-tables c.args.chosen.0 _ small c.requires c.weights_of-weights.result c.weights_of-weights.ensures _ _ c.of.result.fit
    c.of.ensures.low_sums c.of.ensures.high_sums
