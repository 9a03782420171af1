-- `tables::start_part` meets its contract, for a chosen vertex and for any other.
-- Assumes nothing.
use Prim.Native.Nat.{◌<◌}
use native.Mathlib.Omega.{arith}
use Rattle.family_words.proofs.Families.{same-words}
use Rattle.tables.proofs.Starts.{place-le, picked-part, other-part}
use Rattle.tables.proofs.start_part.Goals as goal

pub start_words-requires : goal.start_words-requires
start_words-requires c =
    let v = c.args.v in
    let h : v < 64 = c.requires in
    let e = c.place_among-k.ensures in
    let l = place-le c.args.chosen.0 v in
    omega arith

pub returns-then-has : goal.returns-then-has
returns-then-has c =
    picked-part c.args.chosen.0 _ _ _ (c.has.ensures.yes c.if-has.true) c.place_among-k.ensures c.start_words.ensures

pub returns-else-has : goal.returns-else-has
returns-else-has c =
    other-part c.args.chosen.0 _ _ (c.has.ensures.no c.if-has.false) (same-words 0)
