-- `family_steps::next_member` meets its contract. The loop's invariant: no member after m has fewer than s bits, and of those with s bits the ones
-- after m are `from` or above it.
-- Assumes nothing.
use Rattle.family_steps.proofs.Steps.{Seeking}
use Rattle.family_steps.proofs.next_member.Given as goal

abbrev pub invariant-loop-s : goal.invariant-loop-s
invariant-loop-s l = Seeking l.words l.m l.from l.s
