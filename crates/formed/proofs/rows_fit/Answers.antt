use Rattle.std.proofs.Common.{◌≡◌, length, arith, rules, Fits, w64}
use Rattle.std.proofs.lemmas.List.{length_push}
use Rattle.std.proofs.lemmas.Slice.Zip.{zip_turn, zip_end}
use lib.ListN.{get_or}
use Rattle.vertex_set.proofs.Decisions.{decide_iff, decide-eqb}
use Rattle.formed.proofs.Edges.{fit_none, fit-more, rows-by-colours}
use Rattle.formed.proofs.rows_fit.Goals as goal

pub loop-row-init : goal.loop-row-init
loop-row-init c = fit_none _ _ _

pub loop-row-preserved : goal.loop-row-preserved
loop-row-preserved c =
    let l = c.loop-row in
    let a = c.args in
    let n = length l.yielded in
    let t = zip_turn a.rows.needs a.recovery.needs l.yielded c.into_iter-row-iterator.result l.row-iterator c.next.new.self c.next.result (cc) (cc) l.yielded_by _ c.in-Some.is c.next.ensures.steps in
    let k : Fits w64 a.bound.0 = search rules in
    let r : Fits w64 (get_or a.rows.needs n 0) = search rules in
    let m : Fits w64 (get_or a.recovery.needs n 0) = search rules in
    let long : length a.rows.needs ≡ 8 = search rules in
    rw (length_push l.yielded (c.in-Some.row, c.in-Some.marked), t.2 0, t.3 0)
    (fit-more a.bound.0 a.rows a.recovery n l.stray k.fits r.fits m.fits l.invariant)

pub returns : goal.returns
returns c =
    let a = c.args in
    let l = c.loop-row in
    let e = zip_end a.rows.needs a.recovery.needs l.yielded c.into_iter-row-iterator.result l.row-iterator c.next.new.self c.next.result (cc) (cc) l.yielded_by c.in-None.is c.next.ensures.steps in
    let long : length a.rows.needs ≡ 8 = search rules in
    let marked : length a.recovery.needs ≡ 8 = search rules in
    let n : length l.yielded ≡ 8 = omega arith in
    decide_iff (rows-by-colours a.bound.0 a.rows a.recovery l.stray long marked (rw n at l.invariant)) (decide-eqb l.stray 0)
