-- The table of the numbers of ways to choose half of n things, tested once by computation.
-- Assumes nothing.
use mathlib.Core.Path.{◌≡◌, refl}
use mathlib.Core.Bool.{Bool}
use mathlib.Core.List.{List, [], ◌∷◌}
use Prim.Native.Nat.{ℕ, ◌/◌, ◌≤◌, ◌<◌}
use borrow.Author.Tests.{eqb-true, leb-true}
use lib.Dec.{eqb, leb}
use lib.ListN.{get_or}
use Rattle.vertex_set.proofs.Shifts.{all-at}
use Rattle.antichains.specs.Antichains.{choose, HalfAtBounds}

abbrev pub ways : List ℕ
ways = 1 ∷ 1 ∷ 2 ∷ 3 ∷ 6 ∷ 10 ∷ 20 ∷ 35 ∷ 70 ∷ 126 ∷ 252 ∷ 462 ∷ 924 ∷ 1716 ∷ 3432 ∷ []

abbrev right : ℕ → Bool
right n = eqb (get_or ways n 0) (choose n (n / 2))

pub ways-at : (n : ℕ) → n < 15 → get_or ways n 0 ≡ choose n (n / 2)
unfolding choose
ways-at n l = eqb-true (get_or ways n 0) (choose n (n / 2)) (all-at right 15 refl n l)

-- the last is the largest
pub ways-most : (n : ℕ) → n < 15 → choose n (n / 2) ≤ 3432
unfolding choose
ways-most n l = leb-true (choose n (n / 2)) 3432 (all-at (λ (m : ℕ). leb (choose m (m / 2)) 3432) 15 refl n l)

-- and none is 0
pub ways-some : (n : ℕ) → n < 15 → 1 ≤ choose n (n / 2)
unfolding choose
ways-some n l = leb-true 1 (choose n (n / 2)) (all-at (λ (m : ℕ). leb 1 (choose m (m / 2))) 15 refl n l)

pub half-at-bounds : HalfAtBounds
unfolding choose
half-at-bounds = record { none = refl; fourteen = refl }
