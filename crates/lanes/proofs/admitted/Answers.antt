use native.Mathlib.Omega.{arith}
use borrow.Author.Rules.{rules}
use Rattle.family_words.proofs.Families.{filled-part}
use Rattle.lanes.proofs.Colours.{taken_none, taken_more, taken-done, admitted-none}
use Rattle.lanes.proofs.admitted.Goals as goal

pub returns-then-needed-eq0 : goal.returns-then-needed-eq0
returns-then-needed-eq0 c =
    let a = c.args in
    admitted-none a.w.now a.rows a.loss _ _ c.needed.ensures c.if-needed-eq0.true (filled-part 0 _ _ (search rules) (c.fill.ensures.after (λ y e. e)))

pub loop-row-init : goal.loop-row-init
loop-row-init c =
    let a = c.args in
    taken_none a.w.now a.rows a.loss _ _ c.untaken.ensures (filled-part _ _ _ (search rules) (c.fill-2.ensures.after (λ y e. e)))

pub loop-row-preserved : goal.loop-row-preserved
loop-row-preserved c =
    let a = c.args in
    taken_more a.w.now a.rows a.loss _ _ _ (omega arith) c.loop-row.invariant c.take_colour.ensures

pub returns : goal.returns
returns c =
    let a = c.args in
    taken-done a.w.now a.rows a.loss _ _ _ (search rules) (omega arith) c.needed.ensures c.if-needed-eq0.false c.loop-row.invariant
