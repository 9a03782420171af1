use Rattle.std.proofs.Common.{refl}
use Rattle.questions.proofs.Refusals.{number_some}
use Rattle.sheet.proofs.Names.{row-there, span-order}
use Rattle.portal_sheets.proofs.Sheets.{name-refused, name-beyond, name-there}
use Rattle.portal_sheets.proofs.portal_name.Goals as goal

pub returns-then-s-item : goal.returns-then-s-item
returns-then-s-item c = rw c.refused.ensures (name-beyond _ _ c.in-Ok.ensures _ refl c.if-s-item.true)

pub name_span-span-requires : goal.name_span-span-requires
name_span-span-requires c = (row-there _ _ _ c.in-Ok.ensures refl c.if-s-item.false).few

pub overflow_sub-result : goal.overflow_sub-result
overflow_sub-result c = span-order _ _ (row-there _ _ _ c.in-Ok.ensures refl c.if-s-item.false) _ c.name_span-span.ensures

pub returns-else-s-item : goal.returns-else-s-item
returns-else-s-item c = name-there _ _ c.in-Ok.ensures _ refl c.if-s-item.false _ c.name_span-span.ensures

pub returns-in-Err : goal.returns-in-Err
returns-in-Err c = rw c.refused-in-Err.ensures (name-refused _ _ c.in-Err.ensures _ (number_some c.in-Err.refused.refusal))
