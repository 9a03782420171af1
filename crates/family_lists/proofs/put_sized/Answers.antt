-- `family_lists::put_sized` meets its contract. Of the word's lanes those of that size.
-- Assumes nothing.
use native.Mathlib.Omega.{arith}
use borrow.Author.Rules.{rules}
use Rattle.family_lists.proofs.Lists.{sized-lanes, sized-count}
use Rattle.family_lists.proofs.put_sized.Goals as goal

pub put_word-requires-clause-y_in_bounds : goal.put_word-requires-clause-y_in_bounds
put_word-requires-clause-y_in_bounds c =
    let l = c.lanes_of_size-lanes in
    let e = sized-count c.args.b c.args.s c.args.x l.result (search rules) l.ensures in
    omega (arith, c.requires.x_in_bounds)

pub returns : goal.returns
returns c =
    let l = c.lanes_of_size-lanes in
    rw (sized-lanes c.args.b c.args.s c.args.x l.result l.ensures) c.put_word.ensures
