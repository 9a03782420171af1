use Rattle.handin_format.specs.Calls.{ReadSetCall}
use Rattle.portal_register.proofs.portal_read_set.Goals as goal

pub returns : goal.returns
returns c = rw c.from.ensures c.read_set.ensures
