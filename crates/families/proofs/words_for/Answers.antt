-- `families::words_for` meets its contract: 64 masks a word, a power of 2 of them in all.
-- Assumes nothing.
use native.Mathlib.Omega.{arith}
use Rattle.families.proofs.Exact.{words-few, words-many}
use Rattle.families.proofs.words_for.Goals as goal

pub returns-then-n-le6 : goal.returns-then-n-le6
returns-then-n-le6 c = words-few c.args.chosen.0 c.if-n-le6.true

pub returns : goal.returns
returns c = words-many c.args.chosen.0 (omega arith) c.requires
