use lib.ListN.{length, drop}
use Rattle.handin_lines.specs.Inner.Splitting.{split_from}
use Rattle.handin_lines.proofs.SetFields.{Putting}
use Rattle.handin_lines.proofs.sets.put_sets.Given as goal

-- The sets of the n fields so far are written.
abbrev pub invariant-loop-field : goal.invariant-loop-field
invariant-loop-field l =
    Putting l.keys.low l.keys.high l.keys.count (split_from 32 l.start l.l) l.n (drop (length l.yielded) (split_from 32 l.start l.l)) l.initial.out l.out
