use lib.Dec.{eqb}
use lib.ListN.{length, drop}
use Rattle.std.specs.List.{slice_split}
use Rattle.handin_lines.proofs.Naming.{Reading}
use Rattle.handin_lines.proofs.by_name.set_among.Given as goal

-- x is the set of the names so far.
abbrev pub invariant-loop-name : goal.invariant-loop-name
invariant-loop-name l = Reading l.l l.low l.high l.count l.x (drop (length l.yielded) (slice_split (λ b. eqb b 43) l.l))
