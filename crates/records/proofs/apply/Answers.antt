use mathlib.Core.Path.{◌∙◌}
use Rattle.records.proofs.Laws.{overfull, goes_on}
use Rattle.records.proofs.apply.Goals as goal

pub returns-then-records-used : goal.returns-then-records-used
returns-then-records-used c = rw c.tell.ensures (overfull _ _ _ c.if-records-used.true)

pub returns-in-Refuse : goal.returns-in-Refuse
returns-in-Refuse c = goes_on _ _ _ _ c.if-records-used.false c.in-Refuse.is

pub returns-in-Withdraw : goal.returns-in-Withdraw
returns-in-Withdraw c = rw c.tell-in-Withdraw.ensures (c.remove.ensures ∙ goes_on _ _ _ _ c.if-records-used.false c.in-Withdraw.is)

pub returns-in-HandIn : goal.returns-in-HandIn
returns-in-HandIn c = rw c.tell-in-HandIn.ensures (c.lay.ensures ∙ goes_on _ _ _ _ c.if-records-used.false c.in-HandIn.is)
