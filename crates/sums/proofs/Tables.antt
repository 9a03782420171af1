-- The two tables give the sum of the weights at a mask's bits.
-- Assumes nothing.
use mathlib.Core.Path.{◌≡◌}
use mathlib.Core.List.{List}
use Prim.Native.Nat.{ℕ, ◌/◌, ◌%◌, ◌<◌}
use native.Mathlib.Omega.{arith}
use lib.ListN.{length}
use Rattle.sums.specs.Inner.Sums.{sum_at, SumsFit, SumTable}
use Rattle.sums.specs.Inner.Tables.{sum_by, TablesFit}
use Rattle.sums.proofs.Weights.{at_split}

pub tables-sum : (ws low high : List ℕ) → SumTable ws 0 low → SumTable ws 7 high → (m : ℕ) → m < 16384 → sum_by low high m ≡ sum_at ws m
tables-sum ws low high p q m h =
    let a = q.each (m / 128) (omega arith) in
    let b = p.each (m % 128) (omega arith) in
    let e = at_split 7 ws m in
    omega arith

pub tables-fit : (ws low high : List ℕ) → SumTable ws 0 low → SumTable ws 7 high → SumsFit ws → length low ≡ 128 → length high ≡ 128 → TablesFit low high
tables-fit ws low high p q f a b =
    record { long-low = a; long-high = b; fits = λ m h. let e = tables-sum ws low high p q m h in let g = f.fits m in omega arith }
