-- Scores that keep their parts (document 02, point 6: bag scores; document 003, definitions 11 to 14: the sets of multisets scoring scheme).
use Rattle.std.specs.Prelude.{◌≡◌, false, List, [], ◌∷◌, ◌++◌, map, ◌⊎◌, ℕ, ◌*◌, ◌≤◌, length}
use Rattle.vertex_set.specs.Order.{Listed, Before, ListsExactly}
use Rattle.setup.specs.declared.Setup.{Setup}
use Rattle.formed.specs.WellFormed.{WellFormed}
use Rattle.multisets.specs.Multisets.{Pairing, SameMultiset, most_values, values_over, places_of}
use Rattle.bases.specs.Base.{TargetSet, MinimalSet, Base}
use Rattle.bases.specs.Score.{points_at}
use Rattle.antichains.specs.Antichains.{most_sets}
use Rattle.forecasts.specs.Forecast.{Forecast}

-- The multiset of the start values of the vertices of x (document 02: the bag that an opening set gives).
abbrev pub multiset_of : Setup → ℕ → List ℕ
multiset_of s x = values_over (points_at false s) x

-- x's multiset is one of the score: x is of the access base, and no different multiset over the base is at most that of x.
pub record InBagScore (s : Setup) (target x : ℕ) : Type 0 where
  pub is : MinimalSet false s s.graph target x
  pub least : (y : ℕ) → MinimalSet false s s.graph target y → Pairing (multiset_of s y) (multiset_of s x) → SameMultiset (multiset_of s y) (multiset_of s x)

-- x's multiset is one of the score, and x is the first set of the base that has it.
pub record FirstInScore (s : Setup) (target x : ℕ) : Type 0 where
  pub score : InBagScore s target x
  pub first : (y : ℕ) → MinimalSet false s s.graph target y → SameMultiset (multiset_of s y) (multiset_of s x) → (x ≡ y) ⊎ Before x y

-- l has for each multiset of the score the first set of the base that has it, in the order of the base.
abbrev pub MultisetScore : Setup → ℕ → List ℕ → Type 0
MultisetScore s target l = ListsExactly (FirstInScore s target) l

-- The 14 places of each set's multiset, one after the other.
abbrev pub all_places : Setup → List ℕ → List ℕ
all_places s [] = []
all_places s (x ∷ l) = places_of (multiset_of s x) ++ all_places s l

-- How many values each set's multiset has.
abbrev pub all_lengths : Setup → List ℕ → List ℕ
all_lengths s l = map (λ (x : ℕ). length (multiset_of s x)) l

-- ---- theorems

-- Nothing is lost: for every set of initial vertices that opens the target, minimal or not, there is a multiset of the score that is at most its own.
abbrev pub Covered : Type 0
Covered = (s : Setup) (target : ℕ) (l : List ℕ) → WellFormed s → MultisetScore s target l → (y : ℕ) → TargetSet false s s.graph target y
    → (x : ℕ) × Listed l x × Pairing (multiset_of s x) (multiset_of s y)

-- Of the sets that have a multiset of the score one is listed; `BagsApart` says that only one is.
abbrev pub EachListed : Type 0
EachListed = (s : Setup) (target : ℕ) (l : List ℕ) → WellFormed s → MultisetScore s target l → (x : ℕ) → InBagScore s target x
    → (z : ℕ) × Listed l z × SameMultiset (multiset_of s z) (multiset_of s x)

-- Different sets of the score have different multisets, neither of which is at most the other.
abbrev pub BagsApart : Type 0
BagsApart = (s : Setup) (target : ℕ) (l : List ℕ) → MultisetScore s target l → (x y : ℕ) → Listed l x → Listed l y
    → Pairing (multiset_of s x) (multiset_of s y) → x ≡ y

-- The multiset of every set of the access base is a bag: it has at most 14 values.
abbrev pub AreBags : Type 0
AreBags = (s : Setup) (target x : ℕ) → WellFormed s → MinimalSet false s s.graph target x → length (multiset_of s x) ≤ most_values

-- So each multiset of a score is written to 14 places.
abbrev pub PlacesEach : Type 0
PlacesEach = (s : Setup) (target : ℕ) (l : List ℕ) → WellFormed s → MultisetScore s target l → length (all_places s l) ≡ most_values * length l

-- The score has no more multisets than the access base has sets.
abbrev pub NoLonger : Type 0
NoLonger = (s : Setup) (target : ℕ) (l base : List ℕ) → MultisetScore s target l → Base false s s.graph target base → length l ≤ length base

-- The score of a target of a well-formed setup has at most 3,432 multisets.
abbrev pub LongestScore : Type 0
LongestScore = (s : Setup) (target : ℕ) (l : List ℕ) → WellFormed s → MultisetScore s target l → length l ≤ most_sets

-- The target's forecast is enough for the score too: the score has no more multisets than it tells.
abbrev pub ForecastEnough : Type 0
ForecastEnough = (s : Setup) (target counted n : ℕ) (l : List ℕ) → WellFormed s → MultisetScore s target l → Forecast s target counted n → length l ≤ n

-- One score is at most another: for each multiset of the other it has one that is at most that (document 003, definition 12).
abbrev pub BagScoreAtMost : Setup → List ℕ → List ℕ → Type 0
BagScoreAtMost s l k = (y : ℕ) → Listed k y → (x : ℕ) × Listed l x × Pairing (multiset_of s x) (multiset_of s y)
