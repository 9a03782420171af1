-- Families of masks: a truth table of 2^14 bits, kept as a list of 256 words.
use Rattle.std.specs.Prelude.{List, [], ◌∷◌, ℕ, ◌+◌, ◌-◌, ◌*◌, ◌/◌, ◌%◌, ◌^◌, ◌≤◌, ◌<◌, get_or}
use Rattle.std.specs.Int.Count.{ones}
use Rattle.vertex_set.specs.Set.{Member, Within, ProperlyWithin, Iff}

-- The number of words that a family has.
abbrev pub family_words : ℕ
family_words = 256

-- The most bits of a mask, and so the most chosen vertices.
abbrev pub mask_bits : ℕ
mask_bits = 14

-- The number of masks, 2^14: a family has a bit for each.
abbrev pub masks : ℕ
masks = 16384

-- The mask m is in the family f.
unfoldable pub In : List ℕ → ℕ → Type 0
In f m = Member (get_or f (m / 64) 0) (m % 64)

-- The words of the family are words of 64 bits.
abbrev pub WordsFit : List ℕ → Type 0
WordsFit f = (i : ℕ) → get_or f i 0 < 2 ^ 64

-- The number of the family's members: the ones of all its words.
abbrev pub size : List ℕ → ℕ
size [] = 0
size (w ∷ f) = ones w + size f

-- A mask that has all of a member's bits is a member.
pub record Monotone (f : List ℕ) : Type 0 where
  pub up : (k m : ℕ) → k < masks → m < masks → Within k m → In f k → In f m

-- m is in the family, and no proper submask of it is.
pub record Minimal (f : List ℕ) (m : ℕ) : Type 0 where
  pub is : In f m
  pub none : (k : ℕ) → ProperlyWithin k m → In f k → ⊥

-- m is in the family, and m without any one of its bits is not.
pub record Least (f : List ℕ) (m : ℕ) : Type 0 where
  pub is : In f m
  pub none : (j : ℕ) → Member m j → In f (m - 2 ^ j) → ⊥

-- g has the minimal members of the monotone family f; of any other, those that are least one step down.
pub record MinimalMembers (f g : List ℕ) : Type 0 where
  pub minimal : Monotone f → (m : ℕ) → m < masks → Iff (In g m) (Minimal f m)
  pub least : (m : ℕ) → m < masks → Iff (In g m) (Least f m)

-- Of the masks that are least one step down all are in the first n words.
pub record LeastBelow (n : ℕ) (f : List ℕ) : Type 0 where
  pub place : n ≤ family_words
  pub below : (m : ℕ) → m < masks → Least f m → m < n * 64
