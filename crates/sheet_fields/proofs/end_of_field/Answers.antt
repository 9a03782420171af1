use Rattle.std.proofs.Common.{arith}
use Rattle.sheet_fields.proofs.Cutting.{end_is, end_not}
use Rattle.sheet_fields.proofs.end_of_field.Goals as goal

pub returns-then-end-l : goal.returns-then-end-l
returns-then-end-l c = end_is c.args.l.now c.args.at c.find-end.result c.find-end.ensures (omega arith) (omega arith)

pub returns-else-at-end : goal.returns-else-at-end
returns-else-at-end c = end_not c.args.l.now c.args.at c.find-end.result c.find-end.ensures (λ s h. omega arith)
