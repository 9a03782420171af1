use Rattle.std.proofs.Common.{arith, sym, subst}
use Rattle.std.specs.Prelude.{Result}
use Rattle.questions.proofs.Refusals.{number_most}
use Rattle.portal.proofs.Portal.{coded-value, coded-refusal}
use Rattle.portal.proofs.code.Goals as goal

pub returns-in-Ok : goal.returns-in-Ok
returns-in-Ok g c = rw (c.in-Ok.is, c.number.ensures) (coded-value c.in-Ok.score.0)

pub overflow_add-result : goal.overflow_add-result
overflow_add-result g c = omega (arith, number_most c.in-Err.refusal, c.number-in-Err.ensures)

pub returns-in-Err : goal.returns-in-Err
returns-in-Err g c = rw (c.in-Err.is, c.number-in-Err.ensures) (coded-refusal _)
