-- Parts of a slice, as a call gets them.
-- Assumes nothing.
use mathlib.Core.Path.{◌≡◌}
use mathlib.Core.List.{List}
use Prim.Native.Nat.{ℕ, ◌-◌}
use native.Mathlib.Omega.{arith}
use lib.ListN.{length, take, drop, length-drop}
use lib.Seq.{take_all}

-- `&s[k..]`
pub rest_part : (s : List ℕ) (k : ℕ) → take (length s - k) (drop k s) ≡ drop k s
rest_part s k = take_all (length s - k) (drop k s) (omega (arith, length-drop k s))
