use Rattle.std.proofs.Common.{refl}
use Rattle.portal_sets.proofs.results.ListsResultFromResultLengthsRefusal.from.Goals as goal

pub returns-in-Err : goal.returns-in-Err
returns-in-Err c = rw (c.in-Err.is, c.number.ensures) (record { returned = refl; unused = 2; told = refl })
