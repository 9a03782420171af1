use lib.ListN.{length, drop}
use Rattle.handin_lines.specs.Inner.Splitting.{split_from}
use Rattle.handin_lines.proofs.SetFields.{Checking}
use Rattle.handin_lines.proofs.sets.check_sets.Given as goal

-- The n fields so far are sets.
abbrev pub invariant-loop-field : goal.invariant-loop-field
invariant-loop-field l =
    Checking l.low l.high l.count (split_from 32 l.start l.l) l.n (drop (length l.yielded) (split_from 32 l.start l.l))
