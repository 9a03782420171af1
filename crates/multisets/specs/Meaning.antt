-- What the order of multisets is: theorems about every two lists, said by counting and by sorting.
use Rattle.std.specs.Prelude.{◌≡◌, Bool, cond, List, [], ◌∷◌, ℕ, suc, ◌+◌, ◌≤◌, ◌<◌, leb, length, get_or}
use Rattle.vertex_set.specs.Set.{Iff, Decides}
use Rattle.multisets.specs.Multisets.{Pairing, BagAtMost, SameMultiset, most_values, highest_first, places_of}

-- 1 where x is at least t, else 0.
unfoldable pub is_high : ℕ → ℕ → ℕ
is_high t x = cond (leb t x) 1 0

-- How many values of the list are at least t.
abbrev pub at_least : List ℕ → ℕ → ℕ
at_least [] t = 0
at_least (x ∷ l) t = is_high t x + at_least l t

-- At every threshold m has no more values at or above it than n.
abbrev pub Fewer : List ℕ → List ℕ → Type 0
Fewer m n = (t : ℕ) → at_least m t ≤ at_least n t

-- m has no more values than n, and sorted highest first it is nowhere above n.
pub record PlaceByPlace (m n : List ℕ) : Type 0 where
  pub long : length m ≤ length n
  pub each : (i : ℕ) → i < length m → get_or (highest_first m) i 0 ≤ get_or (highest_first n) i 0

-- Each value is at least as high as the next.
pub record Descending (l : List ℕ) : Type 0 where
  pub each : (i : ℕ) → suc i < length l → get_or l (suc i) 0 ≤ get_or l i 0

-- ---- theorems

-- A pairing of m with n exists exactly where no threshold has more values at or above it in m than in n.
abbrev pub PairingCounts : Type 0
PairingCounts = (m n : List ℕ) → Iff (Pairing m n) (Fewer m n)

-- A pairing of m with n exists exactly where the sorted lists compare place by place.
abbrev pub PairingSorts : Type 0
PairingSorts = (m n : List ℕ) → Iff (Pairing m n) (PlaceByPlace m n)

-- "At most" is reflexive: every list can be paired with itself.
abbrev pub Reflexive : Type 0
Reflexive = (m : List ℕ) → Pairing m m

-- "At most" is transitive: where k can be paired with m, and m with n, k can be paired with n.
abbrev pub Transitive : Type 0
Transitive = (k m n : List ℕ) → Pairing k m → Pairing m n → Pairing k n

-- "At most" is antisymmetric up to the same multiset: lists that can be paired both ways are the same multiset.
abbrev pub Antisymmetric : Type 0
Antisymmetric = (m n : List ℕ) → Pairing m n → Pairing n m → SameMultiset m n

-- The order of writing does not matter: lists that are the same multisets have the same answer.
abbrev pub OrderFree : Type 0
OrderFree = (m m' n n' : List ℕ) → SameMultiset m m' → SameMultiset n n' → BagAtMost m n → BagAtMost m' n'

-- The contract of the call leaves one answer: yes or no.
abbrev pub OneAtMostAnswer : Type 0
OneAtMostAnswer = (m n : List ℕ) (b b' : Bool) → Decides (BagAtMost m n) b → Decides (BagAtMost m n) b' → b ≡ b'

-- A list arranged by `highest_first` is the same multiset, and each of its values is at least as high as the next.
abbrev pub Arranges : Type 0
Arranges = (m : List ℕ) → Descending (highest_first m) × SameMultiset (highest_first m) m

-- There is one arrangement for each multiset: two lists are the same multiset exactly where they are arranged alike.
abbrev pub OneArrangement : Type 0
OneArrangement = (m n : List ℕ) → Iff (SameMultiset m n) (highest_first m ≡ highest_first n)

-- A bag takes up 14 places.
abbrev pub FourteenPlaces : Type 0
FourteenPlaces = (m : List ℕ) → length m ≤ most_values → length (places_of m) ≡ most_values

-- The 14 places of a bag and its length tell it from every other: bags that have both in common are the same multiset.
abbrev pub WrittenApart : Type 0
WrittenApart = (m n : List ℕ) → length m ≤ most_values → length n ≤ most_values → length m ≡ length n → places_of m ≡ places_of n → SameMultiset m n
