-- `sums::MaskSums::of` meets its contract: what the two tables give is the sum of the weights at a mask's bits.
-- Assumes nothing.
use borrow.Author.Rules.{rules}
use Rattle.sums.proofs.Tables.{tables-fit}
use Rattle.sums.proofs.MaskSums.of.Goals as goal

pub invariant_of-result : goal.invariant_of-result
invariant_of-result c =
    record { fit = tables-fit _ _ _ c.fill_sums.ensures c.fill_sums-2.ensures c.requires (search rules) (search rules) }
