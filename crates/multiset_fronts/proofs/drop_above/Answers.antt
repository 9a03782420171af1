use borrow.Author.Rules.{rules}
use Rattle.multiset_fronts.proofs.Dropping.{dropping-none, dropping-all}
use Rattle.multiset_fronts.proofs.Pairs.{pairs-more, pairs-same}
use Rattle.multiset_fronts.proofs.drop_above.Goals as goal

pub loop-i-init : goal.loop-i-init
loop-i-init c = dropping-none _ _ _ _ _ _

pub loop-i-preserved-then-at_most : goal.loop-i-preserved-then-at_most
loop-i-preserved-then-at_most c =
    pairs-same c.args.kept.now c.args.keys.now c.args.n c.args.new.first c.args.new.second c.loop-i.kept c.loop-i.keys c.loop-i.i c.loop-i.left c.index-keys-i.result (search rules) c.loop-i.invariant
    c.loop-i-test.true c.requires.0 c.requires.1 _ c.at_most.ensures c.if-at_most.true

pub loop-i-preserved : goal.loop-i-preserved
loop-i-preserved c =
    pairs-more c.args.kept.now c.args.keys.now c.args.n c.args.new.first c.args.new.second c.loop-i.kept c.loop-i.keys c.loop-i.i c.loop-i.left c.index-keys-i.result (search rules) c.loop-i.invariant
    c.loop-i-test.true c.requires.0 c.requires.1 _ c.at_most.ensures c.if-at_most.false
