use Rattle.report_writer.proofs.Lists.{values-losses, values-starts}
use Rattle.report_writer.proofs.steps.values_by.Goals as goal

pub returns-then-loss : goal.returns-then-loss
returns-then-loss c = values-losses _ _ c.if-loss.true

pub returns : goal.returns
returns c = values-starts _ _ c.if-loss.false
