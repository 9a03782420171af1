-- `multiset_keys::is_high` meets its contract.
-- Assumes nothing.
use borrow.Author.Rules.{rules}
use Rattle.multisets.specs.Meaning.{is_high}
use Rattle.multiset_keys.proofs.is_high.Goals as goal

pub returns : goal.returns
unfolding is_high
returns c = search rules
