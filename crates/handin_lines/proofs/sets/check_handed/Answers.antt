use mathlib.Core.Path.{refl}
use Rattle.std.proofs.lemmas.Result.{err_from_is_err_and}
use Rattle.questions.proofs.Refusals.{number_some}
use Rattle.handin_lines.proofs.Fields.{handed-no, handed-many, handed-all}
use Rattle.handin_lines.proofs.sets.check_handed.Goals as goal

pub returns-in_err-handed : goal.returns-in_err-handed
returns-in_err-handed c =
    let a = c.args in
    let p = err_from_is_err_and c.from_residual.result c.from_residual.ensures.1 in
    rw (p.1, p.2) (handed-no a.low.now a.high.now a.count a.l.now a.start _ c.in_err-handed.ensures (number_some _))

pub returns-then-handed-gt-MAX_HANDED : goal.returns-then-handed-gt-MAX_HANDED
returns-then-handed-gt-MAX_HANDED c =
    let a = c.args in
    handed-many a.low.now a.high.now a.count a.l.now a.start _ c.in_ok-handed.ensures refl c.if-handed-gt-MAX_HANDED.true

pub returns : goal.returns
returns c =
    let a = c.args in
    handed-all a.low.now a.high.now a.count a.l.now a.start _ c.in_ok-handed.ensures refl c.if-handed-gt-MAX_HANDED.false
