-- `sheet_fields::pack` meets its contract. The loop's invariant: n is the number that the bytes from i on make.
-- Assumes nothing.
use mathlib.Core.Path.{◌≡◌}
use Prim.Native.Nat.{◌≤◌}
use lib.ListN.{length, drop}
use Rattle.sheet_fields.specs.Inner.Keys.{packed_bytes}
use Rattle.sheet_fields.proofs.pack.Given as goal

abbrev pub invariant-loop-i : goal.invariant-loop-i
invariant-loop-i l = (l.i ≤ length l.f) × (l.n ≡ packed_bytes (drop l.i l.f))
