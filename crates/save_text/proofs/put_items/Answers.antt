use mathlib.Core.Path.{◌≡◌}
use native.Mathlib.Omega.{arith}
use Rattle.save_format.specs.Inner.{item_text, items_text}
use Rattle.sheet_format.specs.Names.{name_of}
use Rattle.save_text.proofs.Writing.{texts-none, texts-more, texts-room}
use borrow.Author.Rules.{rules}
use Rattle.save_text.proofs.put_items.Goals as goal

pub loop-i-init : goal.loop-i-init
loop-i-init c = (search rules, texts-none _ _)

pub put_item-requires : goal.put_item-requires
unfolding items_text item_text
put_item-requires c =
    record { item = c.requires.items.each c.loop-i.i c.loop-i-test.true; room = texts-room (item_text (name_of c.args.names.sheet.now) c.args.vertices.now) _ _ c.loop-i.i c.args.count c.loop-i-test.true c.loop-i.invariant.1 c.requires.room }

pub loop-i-preserved : goal.loop-i-preserved
unfolding item_text
loop-i-preserved c = (search rules, texts-more (item_text (name_of c.args.names.sheet.now) c.args.vertices.now) _ _ c.loop-i.i _ c.loop-i.invariant.1 c.put_item.ensures)

pub returns : goal.returns
unfolding items_text
returns c =
    let e : c.loop-i.i ≡ c.args.count = omega arith in
    rw (← e) c.loop-i.invariant.1
