-- `families::steps_in_word` meets its contract. Six shifts, each kept where the lane's number has the bit.
-- Assumes nothing.
use Rattle.families.proofs.Steps.{steps-in-word}
use Rattle.families.proofs.steps_in_word.Goals as goal

pub returns : goal.returns
returns c = steps-in-word c.args.x
