-- Loops that write a part's words one after the other: word b becomes f b, and may be read before.
-- Assumes nothing.
use mathlib.Core.Path.{◌≡◌, sym, ◌∙◌, subst}
use mathlib.Core.List.{List}
use mathlib.Core.Logic.{⊎_elim}
use Prim.Native.Nat.{ℕ, ◌+◌, ◌≤◌, ◌<◌}
use native.Mathlib.Omega.{arith}
use lib.ListN.{length, get_or, set, length-set}
use lib.Seq.{get_or-set_same, get_or-set_other}
use Rattle.vertex_set.proofs.Cases.{same_or}

-- The first n words of d are f's; the others are those of d₀ still.
pub record Mapped (f : ℕ → ℕ) (d₀ d : List ℕ) (n : ℕ) : Type 0 where
  pub place : n ≤ 16
  pub words : length d ≡ 16
  pub done : (b : ℕ) → b < n → get_or d b 0 ≡ f b
  pub left : (b : ℕ) → n ≤ b → get_or d b 0 ≡ get_or d₀ b 0

module _ (f : ℕ → ℕ) (d₀ : List ℕ) where
  pub mapped-more : (d : List ℕ) (n x : ℕ) → Mapped f d₀ d n → n < 16 → x ≡ f n → Mapped f d₀ (set d n x) (n + 1)
  mapped-more d n x m h e =
      record {
        place = omega arith;
        words = length-set d n x ∙ m.words;
        done = λ b l. ⊎_elim
            (λ q. subst (λ (j : ℕ). get_or (set d n x) j 0 ≡ f j) (sym q) (get_or-set_same d n x 0 (let e2 = m.words in omega arith) ∙ e))
            (λ q. get_or-set_other d n b x 0 q ∙ m.done b (omega arith))
            (same_or b n);
        left = λ b l. get_or-set_other d n b x 0 (λ q. omega arith) ∙ m.left b (omega arith);
      }
