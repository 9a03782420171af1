use Rattle.std.proofs.Common.{◌≡◌, length}
use Rattle.vertex_set.specs.Set.{Iff}
use Rattle.formed.proofs.Edges.{FitBelow}
use Rattle.formed.proofs.rows_fit.Given as goal

-- Nothing strays exactly where each row so far lies within the bound, and its recovery row lies within the row.
abbrev pub invariant-loop-row : goal.invariant-loop-row
invariant-loop-row l = Iff (l.stray ≡ 0) (FitBelow l.bound.0 l.fn.rows l.fn.recovery (length l.yielded))
