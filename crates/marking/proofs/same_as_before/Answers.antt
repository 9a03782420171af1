use Rattle.marking.proofs.Seeing.{earlier-next}
use borrow.Author.Rules.{rules}
use Rattle.marking.proofs.same_as_before.Goals as goal

pub returns-then-i-ne0 : goal.returns-then-i-ne0
returns-then-i-ne0 c = earlier-next c.args.handed.now c.args.i (search rules) c.if-i-ne0.true
