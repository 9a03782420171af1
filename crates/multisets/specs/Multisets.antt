-- Multisets of numbers (document 02, point 6: bags; document 003, 4.3): a list in any order is one. When one is at most another, when two are the
-- same, and how one is written down.
use Rattle.std.specs.Prelude.{◌≡◌, cond, List, [], ◌∷◌, ◌++◌, ℕ, zero, suc, ◌+◌, ◌-◌, ◌/◌, ◌%◌, ◌^◌, ◌≤◌, ◌<◌, max, min, eqb, length, get_or, replicate}

-- A bag has at most 14 values.
abbrev pub most_values : ℕ
most_values = 14

-- The values of m can be paired, one to one, with values of n that are at least as high (document 003, definition 11): to each place of m belongs
-- a place of n, and to different places different ones. Some of n may be left over.
pub record Pairing (m n : List ℕ) : Type 0 where
  pub to : ℕ → ℕ
  pub place : (i : ℕ) → i < length m → to i < length n
  pub apart : (i j : ℕ) → i < length m → j < length m → to i ≡ to j → i ≡ j
  pub high : (i : ℕ) → i < length m → get_or m i 0 ≤ get_or n (to i) 0

-- Both lists are bags, and the one is at most the other. A longer list is no bag, whatever stands against it.
pub record BagAtMost (m n : List ℕ) : Type 0 where
  pub first : length m ≤ most_values
  pub second : length n ≤ most_values
  pub pairing : Pairing m n

-- How often t stands in the list.
abbrev pub times : List ℕ → ℕ → ℕ
times [] t = 0
times (x ∷ l) t = cond (eqb x t) 1 0 + times l t

-- The two lists are the same multiset: each number stands equally often in both.
pub record SameMultiset (m n : List ℕ) : Type 0 where
  pub each : (t : ℕ) → times m t ≡ times n t

-- The values of those vertices of the set s that are below n, the last vertex first.
abbrev pub values_below : (ℕ → ℕ) → ℕ → ℕ → List ℕ
values_below value s zero = []
values_below value s (suc n) = cond (eqb (s / 2 ^ n % 2) 1) (value n ∷ values_below value s n) (values_below value s n)

-- The multiset of the values of the vertices of s.
unfoldable pub values_over : (ℕ → ℕ) → ℕ → List ℕ
values_over value s = values_below value s 64

-- x put into a list that has its highest value first: at each place the higher of the two stays, and the lower goes on.
abbrev pub put_high : ℕ → List ℕ → List ℕ
put_high x [] = x ∷ []
put_high x (y ∷ l) = max x y ∷ put_high (min x y) l

-- The list with its highest value first.
abbrev pub highest_first : List ℕ → List ℕ
highest_first [] = []
highest_first (x ∷ l) = put_high x (highest_first l)

-- The 14 places of a bag: its values, the highest first, and 0 in the places that are not used.
unfoldable pub places_of : List ℕ → List ℕ
places_of m = highest_first m ++ replicate (most_values - length m) 0
