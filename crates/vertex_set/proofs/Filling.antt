-- A list filled from the front, place by place.
-- Assumes nothing.
use mathlib.Core.Path.{sym, subst}
use mathlib.Core.List.{List}
use mathlib.Core.Logic.{⊎_elim}
use Prim.Native.Nat.{ℕ, ◌+◌, ◌<◌}
use native.Mathlib.Omega.{arith}
use lib.ListN.{length, get_or, set}
use lib.Seq.{get_or-set_same, get_or-set_other}
use Rattle.vertex_set.proofs.Cases.{same_or}

-- one place more: what is wanted at each place below n, and of x at n, holds at each place below n + 1 once x is stored
pub fill_more : {A : Type 0} (d : A) (P : ℕ → A → Type 0) (out : List A) (n : ℕ) (x : A) → n < length out → ((i : ℕ) → i < n → P i (get_or out i d)) → P n x
    → (i : ℕ) → i < n + 1 → P i (get_or (set out n x) i d)
fill_more d P out n x l b p i k =
    ⊎_elim
    (λ e. subst (λ (j : ℕ). P j (get_or (set out n x) j d)) (sym e) (subst (P n) (sym (get_or-set_same out n x d l)) p))
    (λ e. subst (P i) (sym (get_or-set_other out n i x d e)) (b i (omega (arith, e))))
    (same_or i n)
