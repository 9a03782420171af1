use borrow.Author.Rules.{rules}
use mathlib.Core.Path.{◌≡◌}
use native.Mathlib.Omega.{arith}
use lib.ListN.{length}
use Rattle.portal_words.specs.Words.{needs_of}
use Rattle.portal_words.proofs.Writing.{put-none, put-more, put_all}
use Rattle.portal_words.proofs.put_graph.Goals as goal

pub loop-rows-init : goal.loop-rows-init
loop-rows-init c = (search rules, put-none _ _ _ _)

pub loop-rows-preserved : goal.loop-rows-preserved
loop-rows-preserved c =
    let a = c.args in
    let long : length a.g.rows ≡ 64 = c.well_formed.0.1.1.0.1.0.1 in
    let w = c.put_rows-next.ensures in
    let n = w.wrote.next in
    let k = w.long in
    (omega arith, put-more needs_of a.g.rows a.out.now a.at c.loop-rows.out c.loop-rows.next c.loop-rows.rows-index _ _ _ (omega arith) c.loop-rows.invariant.1 w.wrote)

pub returns : goal.returns
returns c =
    let a = c.args in
    let long : length a.g.rows ≡ 64 = c.well_formed.0.1.1.0.1.0.1 in
    put_all needs_of a.g.rows a.out.now a.at c.loop-rows.out c.loop-rows.next c.loop-rows.rows-index 512 (omega arith) (omega arith) c.loop-rows.invariant.1
