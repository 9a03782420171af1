-- `multiset_keys::mask_keys` meets its contract: no column is too large to be summed up.
-- Assumes nothing.
use Rattle.multiset_keys.proofs.Sums.{columns-sum-up}
use Rattle.multiset_keys.proofs.mask_keys.Goals as goal

pub sum_tables-requires : goal.sum_tables-requires
sum_tables-requires c = columns-sum-up _ _ _ _ c.requires.chosen_bound c.columns_of-columns.ensures
