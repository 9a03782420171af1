-- `families::minimal_members` meets its contract. The invariant: each word below b has its least lanes, and those from n on have none.
-- Assumes nothing.
use Rattle.families.proofs.Families.{LeastTo}
use Rattle.families.proofs.minimal_members.Given as goal

abbrev pub invariant-loop-b : goal.invariant-loop-b
invariant-loop-b l = LeastTo l.f l.n l.b l.out
