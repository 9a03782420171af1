use Rattle.pool_items.proofs.NameRows.{none-inside}
use Rattle.pool_items.proofs.Shared.none.Goals as goal

pub invariant_of-result : goal.invariant_of-result
invariant_of-result c = record { few = c.requires; inside = none-inside }
