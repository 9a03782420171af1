-- The numbers of the refusals.
-- Assumes nothing.
use mathlib.Core.Path.{◌≡◌}
use Prim.Native.Nat.{ℕ, ◌≤◌}
use native.Mathlib.Omega.{arith}
use Rattle.questions.specs.declared.Refusal.{Refusal}
use Rattle.questions.specs.declared.Refusal.TheVariants as no
use Rattle.questions.specs.Refusals.{number}

-- none is 0
pub number_some : (e : Refusal) → number e ≡ 0 → ⊥
number_some no.TooLong h = omega (arith, h)
number_some no.NoText h = omega (arith, h)
number_some no.Header h = omega (arith, h)
number_some no.Fields h = omega (arith, h)
number_some no.Form h = omega (arith, h)
number_some no.NameUsed h = omega (arith, h)
number_some no.Bound h = omega (arith, h)
number_some no.NameUnknown h = omega (arith, h)
number_some no.EdgeTwice h = omega (arith, h)
number_some no.NoRows h = omega (arith, h)
number_some no.NoEdgePart h = omega (arith, h)
number_some no.NoSetup h = omega (arith, h)
number_some no.NoItem h = omega (arith, h)
number_some no.Outside h = omega (arith, h)
number_some no.Short h = omega (arith, h)
number_some no.KindsLength h = omega (arith, h)
number_some no.NoKind h = omega (arith, h)
number_some no.NoColour h = omega (arith, h)
number_some no.EdgeThere h = omega (arith, h)
number_some no.NoEdge h = omega (arith, h)
number_some no.Stranger h = omega (arith, h)
number_some no.Disagree h = omega (arith, h)
number_some no.PoolBound h = omega (arith, h)
number_some no.PoolShort h = omega (arith, h)
number_some no.Overfull h = omega (arith, h)
number_some no.AllUsed h = omega (arith, h)
number_some no.NoRecord h = omega (arith, h)

-- none is above 27
pub number_most : (e : Refusal) → number e ≤ 27
number_most no.TooLong = omega arith
number_most no.NoText = omega arith
number_most no.Header = omega arith
number_most no.Fields = omega arith
number_most no.Form = omega arith
number_most no.NameUsed = omega arith
number_most no.Bound = omega arith
number_most no.NameUnknown = omega arith
number_most no.EdgeTwice = omega arith
number_most no.NoRows = omega arith
number_most no.NoEdgePart = omega arith
number_most no.NoSetup = omega arith
number_most no.NoItem = omega arith
number_most no.Outside = omega arith
number_most no.Short = omega arith
number_most no.KindsLength = omega arith
number_most no.NoKind = omega arith
number_most no.NoColour = omega arith
number_most no.EdgeThere = omega arith
number_most no.NoEdge = omega arith
number_most no.Stranger = omega arith
number_most no.Disagree = omega arith
number_most no.PoolBound = omega arith
number_most no.PoolShort = omega arith
number_most no.Overfull = omega arith
number_most no.AllUsed = omega arith
number_most no.NoRecord = omega arith
