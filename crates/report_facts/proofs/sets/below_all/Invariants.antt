use Prim.Native.Nat.{◌≤◌}
use Rattle.report_facts.specs.Inner.Sets.{BelowOne}
use Rattle.report_facts.proofs.Gathering.{EachBelow}
use Rattle.report_facts.proofs.sets.below_all.Given as goal

-- Each place before v has the accounts that are out of rank with the vertex of that number above.
abbrev pub invariant-loop-v : goal.invariant-loop-v
invariant-loop-v l = (l.v ≤ 64) × EachBelow (BelowOne l.accounts.0 l.s l.scores) l.v l.r
