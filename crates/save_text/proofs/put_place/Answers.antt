use mathlib.Core.Path.{◌≡◌}
use native.Mathlib.Omega.{arith}
use Rattle.setup.specs.Setup.{row_of}
use Rattle.save_format.specs.Inner.{row_text, place_text}
use Rattle.sheet_format.specs.Names.{name_of}
use Rattle.save_text.proofs.Writing.{texts-none, texts-more, texts-room}
use borrow.Author.Rules.{rules}
use Rattle.save_text.proofs.put_place.Goals as goal

pub loop-c-init : goal.loop-c-init
loop-c-init c = (search rules, texts-none _ _)

pub put_row-requires : goal.put_row-requires
unfolding place_text
put_row-requires c =
    record { ends = c.requires.ends.each c.loop-c.c; room = texts-room (λ k. row_text (name_of c.args.names.sheet.now) c.args.to k (row_of c.args.rows.now k) (row_of c.args.marked.now k)) _ _ c.loop-c.c 8 c.loop-c-test.true c.loop-c.invariant.1 c.requires.room }

pub loop-c-preserved : goal.loop-c-preserved
loop-c-preserved c = (search rules, texts-more (λ k. row_text (name_of c.args.names.sheet.now) c.args.to k (row_of c.args.rows.now k) (row_of c.args.marked.now k)) _ _ c.loop-c.c _ c.loop-c.invariant.1 c.put_row.ensures)

pub returns : goal.returns
unfolding place_text
returns c =
    let e : c.loop-c.c ≡ 8 = omega arith in
    rw e at c.loop-c.invariant.1
