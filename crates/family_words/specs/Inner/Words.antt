-- Families of masks as words, 64 masks in each; a part of a family has 16 words. What the word operations do to a part.
use Rattle.std.specs.Prelude.{◌≡◌, Bool, true, false, List, [], ◌∷◌, ◌⊎◌, ℕ, ◌+◌, ◌-◌, ◌^◌, ◌<◌, length, get_or}
use Rattle.std.specs.Int.Bits.{bit_and, bit_or}
use Rattle.vertex_set.specs.Set.{Member, Iff}

-- The number of words that a part of a family has.
abbrev pub part_words : ℕ
part_words = 16

-- Bit i of word b of a part.
unfoldable pub At : List ℕ → ℕ → ℕ → Type 0
At f b i = Member (get_or f b 0) i

-- f is a part of a family, and its bits are those of which P holds.
pub record PartWhere (P : ℕ → ℕ → Type 0) (f : List ℕ) : Type 0 where
  pub words : length f ≡ part_words
  pub each : (b i : ℕ) → b < part_words → i < 64 → Iff (At f b i) (P b i)

-- The bits of both words or, with any, of either.
unfoldable pub merged_word : Bool → ℕ → ℕ → ℕ
merged_word false x y = bit_and x y
merged_word true x y = bit_or x y

-- Both hold or, with any, one of them does.
unfoldable pub Merged : Bool → Type 0 → Type 0 → Type 0
Merged false P Q = P × Q
Merged true P Q = P ⊎ Q

-- How much the words can still grow, all together.
unfoldable pub room : List ℕ → ℕ
room [] = 0
room (x ∷ l) = (2 ^ 64 - x) + room l

-- The part d has become e by gaining what s has; r says whether that was more than it had.
pub record Joined (d s : List ℕ) (r : Bool) (e : List ℕ) : Type 0 where
  pub family : PartWhere (λ b i. At d b i ⊎ At s b i) e
  pub same : r ≡ false → e ≡ d
  pub more : r ≡ true → room e < room d
