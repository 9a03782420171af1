-- `families::keep_minimal` meets its contract. The loop's invariant: the words from b on have their least lanes, and those before are untouched.
-- Assumes nothing.
use mathlib.Core.Path.{◌≡◌}
use lib.ListN.{length}
use Rattle.families.proofs.Families.{KeptFrom}
use Rattle.families.proofs.keep_minimal.Given as goal

abbrev pub invariant-loop-b : goal.invariant-loop-b
invariant-loop-b l = (length l.f ≡ 256) × KeptFrom l.initial.f l.b l.f
