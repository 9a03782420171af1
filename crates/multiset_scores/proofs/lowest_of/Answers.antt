use Prim.Native.Nat.{◌^◌, ◌<◌}
use borrow.Author.Rules.{rules}
use Rattle.multiset_scores.proofs.Finding.{can-keep, compared-lowest}
use Rattle.multiset_scores.proofs.lowest_of.Goals as goal

pub keep_lowest-requires : goal.keep_lowest-requires
keep_lowest-requires c =
    let word : c.args.initial.0 < 2 ^ 64 = search rules in
    let a = c.args in
    can-keep a.kept.now a.n a.initial.0 a.points _ _ _ _ c.requires word
    (record { thresholds = _; values = c.weights_of-thresholds.ensures; first = c.mask_keys-firsts.ensures; second = c.mask_keys-seconds.ensures })

pub returns : goal.returns
returns c =
    let word : c.args.initial.0 < 2 ^ 64 = search rules in
    let a = c.args in
    compared-lowest a.kept.now a.n a.initial.0 a.points _ _ _ _ c.requires word
    (record { thresholds = _; values = c.weights_of-thresholds.ensures; first = c.mask_keys-firsts.ensures; second = c.mask_keys-seconds.ensures })
    _ c.keep_lowest.result c.keep_lowest.ensures
