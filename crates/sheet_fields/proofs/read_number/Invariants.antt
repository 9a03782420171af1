use mathlib.Core.Path.{◌≡◌}
use Prim.Native.Nat.{◌≤◌}
use lib.ListN.{drop}
use Rattle.setup.specs.Bounds.{largest}
use Rattle.sheet_fields.specs.Inner.Forms.{more_digits}
use Rattle.sheet_fields.proofs.read_number.Given as goal

-- n is what the digits before the index say, and with those from there on it becomes the field's number.
abbrev pub invariant-loop-b : goal.invariant-loop-b
invariant-loop-b l = (l.n ≤ largest) × (more_digits 0 l.f ≡ more_digits l.n (drop l.b-index l.f))
