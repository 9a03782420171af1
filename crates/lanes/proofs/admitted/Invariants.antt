-- `lanes::admitted` meets its contract. The invariant: out is the family where some colour before c is whole or, with loss, each is cut.
-- Assumes nothing.
use Rattle.lanes.proofs.Colours.{Taken}
use Rattle.lanes.proofs.admitted.Given as goal

abbrev pub invariant-loop-row : goal.invariant-loop-row
invariant-loop-row l = Taken l.w l.fn.rows l.loss l.row-index l.out
