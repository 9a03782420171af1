-- `families::least_word` meets its contract. What is in and one step above nothing.
-- Assumes nothing.
use borrow.Author.Rules.{rules}
use Rattle.families.proofs.Steps.{least-word}
use Rattle.families.proofs.least_word.Goals as goal

pub returns : goal.returns
returns c =
    least-word c.args.f.now c.args.b c.steps_in_word-low.result c.steps_to_word-high.result
    (search rules) (search rules) c.steps_in_word-low.ensures c.steps_to_word-high.ensures
