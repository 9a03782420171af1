-- Inner: the lists that the functions below write_sets write.
use Rattle.std.specs.Prelude.{◌≡◌, Bool, List, [], ◌∷◌, ◌++◌, map, ℕ, zero, suc, ◌+◌, ◌*◌, ◌<◌, eqb, length, get_or}
use Rattle.std.specs.Int.Count.{ones}
use Rattle.vertex_set.specs.Set.{Member, Iff, Decides}
use Rattle.vertex_set.proofs.Places.{places}
use Rattle.vertex_set.proofs.Sorted.{only}
use Rattle.families.specs.Inner.Family.{In, family_words}
pub use Rattle.sums.specs.Inner.Tables.{sum_by, TablesFit}

-- The lanes whose numbers have k bits fewer than s.
pub record Layer (k s r : ℕ) : Type 0 where
  pub each : (i : ℕ) → i < 64 → Iff (Member r i) (k + ones i ≡ s)

-- The lanes of word b whose masks have s bits.
pub record LanesOfSize (b s r : ℕ) : Type 0 where
  pub each : (i : ℕ) → i < 64 → Iff (Member r i) (ones (b * 64 + i) ≡ s)

-- The masks of word b in the lanes of y, in rising order.
abbrev pub masks_in : ℕ → ℕ → List ℕ
masks_in b y = map (λ (i : ℕ). b * 64 + i) (places 64 y)

-- The members of the family f, whose first word has the number b, in rising order.
abbrev pub rising : ℕ → List ℕ → List ℕ
rising b [] = []
rising b (w ∷ f) = masks_in b w ++ rising (suc b) f

-- The masks of the words with the listed numbers.
abbrev pub of_words : List ℕ → List ℕ → List ℕ
of_words f [] = []
of_words f (b ∷ bs) = masks_in b (get_or f b 0) ++ of_words f bs

-- The listed numbers are those of words in which all of the family's members are.
pub record Occupied (f words : List ℕ) : Type 0 where
  pub below : (i : ℕ) → i < length words → get_or words i 0 < family_words
  pub all : of_words f words ≡ rising 0 f

-- At k stand the lanes that are in some word of the family whose number has k bits.
pub record JoinedBySize (f joined : List ℕ) : Type 0 where
  pub each : (k i : ℕ) → i < 64 → Iff (Member (get_or joined k 0) i) ((b : ℕ) × (ones b ≡ k) × Member (get_or f b 0) i)

-- Some member of f has s bits.
pub record HasMaskOfSize (f : List ℕ) (s : ℕ) : Type 0 where
  pub mask : ℕ
  pub is : In f mask
  pub bits : ones mask ≡ s

-- r says whether the family that `joined` was made of, whichever it is, has a member of s bits.
pub record SomeOfSize (joined : List ℕ) (s : ℕ) (r : Bool) : Type 0 where
  pub each : (f : List ℕ) → length f ≡ family_words → JoinedBySize f joined → Decides (HasMaskOfSize f s) r

-- The masks of the list l that have s bits.
abbrev pub of_size : ℕ → List ℕ → List ℕ
of_size s l = only (λ (m : ℕ). eqb (ones m) s) l

-- The masks of the list l that have s bits, then those that have one bit more, and so on, n sizes in all.
abbrev pub by_size : List ℕ → ℕ → ℕ → List ℕ
by_size l s zero = []
by_size l s (suc n) = of_size s l ++ by_size l (suc s) n
