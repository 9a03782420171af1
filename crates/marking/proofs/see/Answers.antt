use borrow.Author.Rules.{rules}
use Rattle.marking.proofs.Seeing.{seen-again, seen-new, seen-outside}
use Rattle.marking.proofs.see.Goals as goal

pub returns-then-same_as_before : goal.returns-then-same_as_before
returns-then-same_as_before c =
    let a = c.args in
    seen-again a.chosen.0 a.handed.now a.seen.now a.i c.requires.i_in_bounds.0 c.requires.seen (c.same_as_before.ensures.yes c.if-same_as_before.true)

pub returns-else-same_as_before : goal.returns-else-same_as_before
returns-else-same_as_before c =
    let a = c.args in
    seen-new a.chosen.0 a.handed.now a.seen.now a.i c.requires.i_in_bounds.0 c.requires.seen c.mask_of-m.result c.put_mask.new.f c.well_formed.1.1.0.1.1.0.1 (c.within.ensures.yes c.if-within.true) c.mask_of-m.ensures (search rules) c.put_mask.ensures

pub returns-else-within : goal.returns-else-within
returns-else-within c =
    let a = c.args in
    seen-outside a.chosen.0 a.handed.now a.seen.now a.i c.requires.i_in_bounds.0 c.requires.seen (c.within.ensures.no c.if-within.false)
