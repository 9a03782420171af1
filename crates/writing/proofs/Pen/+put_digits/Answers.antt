-- `writing::Pen::put_digits` meets its contract: the digits before the last two are written first.
use borrow.Author.Rules.{rules}
use native.Mathlib.Omega.{arith}
use Prim.Native.Nat.{◌/◌}
use lib.ListN.{length-append}
use Rattle.sheet_format.specs.Fields.{decimal}
use Rattle.writing.specs.Inner.{last_two}
use Rattle.writing.proofs.Digits.{decimal-one, decimal-two, decimal-hundred}
use Rattle.writing.proofs.Pens.{penned_then, room_then}
use Rattle.writing.proofs.Pen.+put_digits.Goals as goal

pub put_byte-requires : goal.put_byte-requires
put_byte-requires t c = rw (decimal-one c.args.n c.if-n-lt10.true) at c.requires

pub returns-then-n-lt10 : goal.returns-then-n-lt10
returns-then-n-lt10 t c = rw (decimal-one c.args.n c.if-n-lt10.true) c.put_byte.ensures

pub put_two-requires : goal.put_two-requires
put_two-requires t c = rw (decimal-two c.args.n c.if-n-lt10.false c.if-n-lt100.true) at c.requires

pub returns-then-n-lt100 : goal.returns-then-n-lt100
returns-then-n-lt100 t c = rw (decimal-two c.args.n c.if-n-lt10.false c.if-n-lt100.true) c.put_two.ensures

pub put_digits-requires : goal.put_digits-requires
put_digits-requires t c =
    let e = decimal-hundred c.args.n c.if-n-lt100.false (search rules) in
    let l = length-append (decimal (c.args.n / 100)) (last_two c.args.n) in
    (omega (arith, c.decreases), omega (arith, rw e at c.requires))

pub put_two-requires-2 : goal.put_two-requires-2
put_two-requires-2 t c =
    let e = decimal-hundred c.args.n c.if-n-lt100.false (search rules) in
    room_then _ _ _ c.put_digits.ensures (last_two c.args.n) (rw e at c.requires)

pub returns : goal.returns
returns t c =
    let e = decimal-hundred c.args.n c.if-n-lt100.false (search rules) in
    rw e (penned_then _ _ _ c.put_digits.ensures _ _ c.put_two-2.ensures)
