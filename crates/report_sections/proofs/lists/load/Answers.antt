use borrow.Author.Rules.{rules}
use Rattle.report_sections.proofs.Slots.{slot-lockout, slot-opening, loaded-lockout, loaded-opening, loaded-none}
use Rattle.report_sections.proofs.lists.load.Goals as goal

pub returns-then-not-has : goal.returns-then-not-has
returns-then-not-has c = loaded-none _ _ _ _ _ _ _ (c.has.ensures.no c.if-not-has.true) (search rules)

pub returns-then-k-eq1 : goal.returns-then-k-eq1
returns-then-k-eq1 c = loaded-lockout _ _ _ _ _ _ _ _ _ (c.has.ensures.yes c.if-not-has.false) (slot-lockout _ c.if-k-eq1.true) c.list_from.ensures

pub returns : goal.returns
returns c = loaded-opening _ _ _ _ _ _ _ _ _ (c.has.ensures.yes c.if-not-has.false) (slot-opening _ c.if-k-eq1.false) c.list_from-2.ensures
