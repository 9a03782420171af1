use native.Mathlib.Omega.{arith}
use lib.ListN.{length-set}
use Rattle.portal_words.specs.Words.{setup_words, words_of}
use Rattle.portal_words.proofs.Writing.{all_one, all-long, all-next, all_then}
use Rattle.portal_words.proofs.put_setup.Goals as goal

pub put_vertices-behind_vertices-requires : goal.put_vertices-behind_vertices-requires
put_vertices-behind_vertices-requires c =
    let k = length-set c.args.out.now c.args.at c.args.s.count in
    omega arith

pub put_graph-behind_graph-requires : goal.put_graph-behind_graph-requires
put_graph-behind_graph-requires c =
    let k = length-set c.args.out.now c.args.at c.args.s.count in
    let l = all-long 256 _ _ _ _ _ c.put_vertices-behind_vertices.ensures in
    let n = all-next 256 _ _ _ _ _ c.put_vertices-behind_vertices.ensures in
    omega arith

pub put_graph-behind_recovery-requires : goal.put_graph-behind_recovery-requires
put_graph-behind_recovery-requires c =
    let k = length-set c.args.out.now c.args.at c.args.s.count in
    let l = all-long 256 _ _ _ _ _ c.put_vertices-behind_vertices.ensures in
    let n = all-next 256 _ _ _ _ _ c.put_vertices-behind_vertices.ensures in
    let l2 = all-long 512 _ _ _ _ _ c.put_graph-behind_graph.ensures in
    let n2 = all-next 512 _ _ _ _ _ c.put_graph-behind_graph.ensures in
    omega arith

pub put_sets-requires : goal.put_sets-requires
put_sets-requires c =
    let k = length-set c.args.out.now c.args.at c.args.s.count in
    let l = all-long 256 _ _ _ _ _ c.put_vertices-behind_vertices.ensures in
    let n = all-next 256 _ _ _ _ _ c.put_vertices-behind_vertices.ensures in
    let l2 = all-long 512 _ _ _ _ _ c.put_graph-behind_graph.ensures in
    let n2 = all-next 512 _ _ _ _ _ c.put_graph-behind_graph.ensures in
    let l3 = all-long 512 _ _ _ _ _ c.put_graph-behind_recovery.ensures in
    let n3 = all-next 512 _ _ _ _ _ c.put_graph-behind_recovery.ensures in
    omega arith

pub returns : goal.returns
unfolding words_of
returns c =
    let a = c.args in
    all_then 1 _ _ _ _ _ (all_one a.out.now a.at a.s.count) 1282 _ _ _
    (all_then 256 _ _ _ _ _ c.put_vertices-behind_vertices.ensures 1026 _ _ _
    (all_then 512 _ _ _ _ _ c.put_graph-behind_graph.ensures 514 _ _ _
    (all_then 512 _ _ _ _ _ c.put_graph-behind_recovery.ensures 2 _ _ _ c.put_sets.ensures)))

pub shape_of-out : goal.shape_of-out
shape_of-out c = all-long setup_words _ _ _ _ _ (returns c)
