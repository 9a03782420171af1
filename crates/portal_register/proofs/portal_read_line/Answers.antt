-- `portal_register::portal_read_line` meets its contract: what `handins::read_line` answers, in numbers.
use Rattle.std.proofs.Common.{◌≡◌, cond, rules}
use Rattle.portal_register.proofs.Telling.{line-told}
use Rattle.portal_register.proofs.portal_read_line.Goals as goal

pub returns : goal.returns
returns c = line-told _ _ _ _ _ _ c.read_line.ensures c.from.ensures
