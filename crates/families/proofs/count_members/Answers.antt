use native.Mathlib.Omega.{arith}
use borrow.Author.Rules.{rules}
use lib.Count.{ones-le}
use lib.ListN.{get_or}
use Rattle.families.proofs.Families.{size-drop}
use Rattle.families.proofs.count_members.Goals as goal

pub loop-x-preserved : goal.loop-x-preserved
loop-x-preserved c =
    let few = ones-le 64 (get_or c.args.f.now c.loop-x.x-index 0) (search rules) in
    let e = size-drop c.args.f.now c.loop-x.x-index (omega arith) in
    let w = c.count_word-n.ensures in
    omega (arith, few)

pub returns-clause-words : goal.returns-clause-words
returns-clause-words c = λ i. search rules
