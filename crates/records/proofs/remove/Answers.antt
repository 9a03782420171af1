use mathlib.Core.Path.{◌≡◌, refl}
use native.Mathlib.Omega.{arith}
use borrow.Author.Tests.{eq-eqb, ne_eqb}
use Rattle.records.proofs.Laws.{kept-most, removing-one, removing-more, removed-none}
use Rattle.records.proofs.remove.Goals as goal
use Rattle.records.proofs.remove.Goals.{then-r-student, else-r-student}

pub bounds-records-kept : goal.bounds-records-kept
bounds-records-kept c = let m = kept-most _ _ _ _ _ c.loop-i.invariant in omega arith

pub loop-i-preserved : goal.loop-i-preserved
loop-i-preserved c = elim c.if-r-student.branch [
  | then-r-student w ↦ rw (w.records-is, w.kept-is) (removing-more _ _ _ _ _ c.loop-i.invariant _ _ refl (omega arith) (ne_eqb _ _ w.if-r-student.true))
  | else-r-student w ↦ rw (w.records-is, w.kept-is) (removing-one _ _ _ _ _ c.loop-i.invariant _ _ refl (omega arith) (eq-eqb _ _ w.if-r-student.false))
]

pub returns-then-kept-used : goal.returns-then-kept-used
returns-then-kept-used c =
    let e : c.loop-i.i ≡ c.args.used = omega arith in
    removed-none _ _ _ _ _ (rw e at c.loop-i.invariant) c.if-kept-used.true
