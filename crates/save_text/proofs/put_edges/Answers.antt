use mathlib.Core.Path.{◌≡◌}
use native.Mathlib.Omega.{arith}
use Rattle.setup.specs.Setup.{rows_at}
use Rattle.save_format.specs.Inner.{place_text, edges_text}
use Rattle.sheet_format.specs.Names.{name_of}
use Rattle.save_text.proofs.Writing.{texts-none, texts-more, texts-room}
use borrow.Author.Rules.{rules}
use Rattle.save_text.proofs.put_edges.Goals as goal

pub loop-v-init : goal.loop-v-init
loop-v-init c = (search rules, texts-none _ _)

pub put_place-requires : goal.put_place-requires
unfolding edges_text
put_place-requires c =
    record { ends = c.requires.ends.each c.loop-v.v; room = texts-room (λ k. place_text (name_of c.args.names.sheet.now) k (rows_at c.args.graph.now k) (rows_at c.args.recovery.now k)) _ _ c.loop-v.v 64 c.loop-v-test.true c.loop-v.invariant.1 c.requires.room }

pub loop-v-preserved : goal.loop-v-preserved
loop-v-preserved c = (search rules, texts-more (λ k. place_text (name_of c.args.names.sheet.now) k (rows_at c.args.graph.now k) (rows_at c.args.recovery.now k)) _ _ c.loop-v.v _ c.loop-v.invariant.1 c.put_place.ensures)

pub returns : goal.returns
unfolding edges_text
returns c =
    let e : c.loop-v.v ≡ 64 = omega arith in
    rw e at c.loop-v.invariant.1
