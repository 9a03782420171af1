-- Laws of parts: what the word operations make of their bits.
-- Assumes nothing.
use mathlib.Core.Path.{◌≡◌, sym, ap, subst, ◌∙◌}
use mathlib.Core.Bool.{Bool, true, false}
use mathlib.Core.List.{List}
use Prim.Native.Nat.{ℕ, ◌-◌, ◌^◌, ◌≤◌, ◌<◌}
use native.Mathlib.Omega.{arith}
use lib.ListN.{length, get_or, replicate, length-replicate, get_or-replicate}
use Rattle.vertex_set.specs.Set.{Member, Iff}
use Rattle.vertex_set.proofs.Decisions.{iff-trans, iff-refl}
use Rattle.vertex_set.proofs.Sets.{in_and, in-or, below_power}
use Rattle.family_words.specs.Inner.Words.{At, PartWhere, merged_word, Merged}
use Rattle.family_words.proofs.Words.{Mapped}

-- ---- the same bits, said otherwise

pub part-as : {P Q : ℕ → ℕ → Type 0} (f : List ℕ) → PartWhere P f → ((b i : ℕ) → b < 16 → i < 64 → Iff (P b i) (Q b i)) → PartWhere Q f
part-as f l q = record { words = l.words; each = λ b i hb hi. iff-trans (l.each b i hb hi) (q b i hb hi) }

-- all bits of a word
pub full-word : (i : ℕ) → i < 64 → Member (2 ^ 64 - 1) i
full-word i h = ((below_power 64 (omega arith)).each i).from (h, h)

-- ---- words that are all written

pub mapped-part : (f : ℕ → ℕ) (P : ℕ → ℕ → Type 0) (d₀ d : List ℕ) (n : ℕ) → Mapped f d₀ d n → 16 ≤ n
    → ((b i : ℕ) → b < 16 → i < 64 → Iff (Member (f b) i) (P b i)) → PartWhere P d
unfolding At
mapped-part f P d₀ d n m h p =
    record {
      words = m.words;
      each = λ b i hb hi. subst (λ (x : ℕ). Iff (Member x i) (P b i)) (sym (m.done b (omega arith))) (p b i hb hi);
    }

-- every word is x
pub same-words : (x : ℕ) → PartWhere (λ b i. Member x i) (replicate 16 x)
unfolding At
same-words x =
    record {
      words = length-replicate 16 x;
      each = λ b i hb hi. subst (λ (y : ℕ). Iff (Member y i) (Member x i)) (sym (get_or-replicate 16 b x 0 hb)) iff-refl;
    }

pub filled-part : (x : ℕ) (d₀ d : List ℕ) → length d₀ ≡ 16 → d ≡ replicate (length d₀) x → PartWhere (λ b i. Member x i) d
filled-part x d₀ d e f = subst (PartWhere (λ b i. Member x i)) (sym (f ∙ ap (λ (n : ℕ). replicate n x) e)) (same-words x)

in-merged : (any : Bool) (x y i : ℕ) → Iff (Member (merged_word any x y) i) (Merged any (Member x i) (Member y i))
unfolding merged_word Merged
in-merged false x y i = in_and x y i
in-merged true x y i = in-or x y i

pub merge-part : (any : Bool) (d₀ s d : List ℕ) (n : ℕ) → Mapped (λ b. merged_word any (get_or d₀ b 0) (get_or s b 0)) d₀ d n → 16 ≤ n
    → PartWhere (λ b i. Merged any (At d₀ b i) (At s b i)) d
unfolding At
merge-part any d₀ s d n m h = mapped-part _ _ d₀ d n m h (λ b i hb hi. in-merged any (get_or d₀ b 0) (get_or s b 0) i)
