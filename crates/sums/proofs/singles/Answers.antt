-- `sums::singles` meets its contract: each call of the closure gives the number of one set.
-- Assumes nothing.
use borrow.Author.Rules.{rules}
use Rattle.vertex_set.proofs.Sets.{shifted_one}
use Rattle.sums.proofs.singles.Goals as goal

pub returns : goal.returns
returns c = record { each = λ v h. search (rules, (c.from_fn.ensures.items.at v 0 h).2.met, shifted_one v h) }
