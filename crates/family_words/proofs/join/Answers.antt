use native.Mathlib.Omega.{arith}
use borrow.Author.Rules.{rules}
use Rattle.family_words.proofs.Joins.{joining-more, joined}
use Rattle.family_words.proofs.join.Goals as goal

pub loop-b-preserved : goal.loop-b-preserved
loop-b-preserved c =
    joining-more _ _ _ _ _ c.loop-b.invariant (omega arith) (search rules) (search rules)

pub returns : goal.returns
returns c = joined _ _ _ _ _ c.loop-b.invariant (omega arith)
