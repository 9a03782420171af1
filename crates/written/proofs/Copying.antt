-- A list copied into another, element by element.
-- Assumes nothing.
use mathlib.Core.Path.{◌≡◌, refl, sym, ◌∙◌}
use mathlib.Core.List.{List, [], ◌∷◌}
use Prim.Native.Nat.{ℕ, suc, ◌+◌, ◌<◌}
use native.Mathlib.Numerals.{add-one}
use native.Mathlib.Omega.{arith}
use lib.ListN.{length, get_or, set, drop}
use lib.Seq.{sets, drop-cons, drop-length}

-- i elements of xs stand, and what is left makes the rest.
pub record Copying {A : Type 0} (xs entry : List A) (at : ℕ) (out : List A) (i : ℕ) : Type 0 where
  pub left : sets out (at + i) (drop i xs) ≡ sets entry at xs

module _ {A : Type 0} (xs entry : List A) (at : ℕ) where
  pub copying-none : Copying xs entry at entry 0
  copying-none = let e : at + 0 ≡ at = omega arith in record { left = rw e refl }

  module _ (out : List A) (i : ℕ) (p : Copying xs entry at out i) where
    pub copying-more : (x : A) → i < length xs → x ≡ get_or xs i x → Copying xs entry at (set out (at + i) x) (i + 1)
    copying-more x h e =
        let n : at + suc i ≡ suc (at + i) = omega arith in
        rw (add-one i) (record { left = rw n (sym (rw (drop-cons xs i x h, ← e) refl)) ∙ p.left })

    pub copying-end : i ≡ length xs → out ≡ sets entry at xs
    copying-end e = rw (e, drop-length xs) at p.left
