-- Inner: the running list of the lowest sets. Nothing of this has to be believed: no contract of an offered call cites it.
use Rattle.std.specs.Prelude.{◌≡◌, Bool, true, not, ◌&&◌, List, [], ◌∷◌, ◌++◌, map, ◌⊎◌, ℕ, ◌+◌, ◌≤◌, ◌<◌, length, get_or, take}
use Rattle.vertex_set.specs.Order.{Listed, Before}
use Rattle.vertex_set.proofs.Sorted.{only, Sorted}
use Rattle.families.specs.Inner.Family.{masks}
use Rattle.family_lists.specs.Inner.Tables.{sum_by}
use Rattle.antichains.specs.Antichains.{most_sets}
use Rattle.multiset_keys.specs.Inner.{key_le, KeyTables}
use Rattle.multiset_fronts.specs.declared.keys.Keys.{Keys}

-- The keys of a list, as two lists of numbers.
abbrev pub firsts : List Keys → List ℕ
firsts l = map (λ (k : Keys). k.first) l

abbrev pub seconds : List Keys → List ℕ
seconds l = map (λ (k : Keys). k.second) l

-- Is the pair of keys a, b at most the pair c, d?
abbrev pub both_le : ℕ → ℕ → ℕ → ℕ → Bool
both_le a b c d = key_le a c && key_le b d

-- One of the first n pairs is at most a, b.
pub record SomeBelow (low high : List ℕ) (n a b : ℕ) : Type 0 where
  pub place : ℕ
  pub inside : place < n
  pub is : both_le (get_or low place 0) (get_or high place 0) a b ≡ true

-- At each of the first n places stand a set and its two keys, which f and g give.
pub record Keyed (f g : ℕ → ℕ) (kept low high : List ℕ) (n : ℕ) : Type 0 where
  pub is_low : (i : ℕ) → i < n → get_or low i 0 ≡ f (get_or kept i 0)
  pub is_high : (i : ℕ) → i < n → get_or high i 0 ≡ g (get_or kept i 0)

-- Of sets with these keys, those are kept that a, b is not at most.
abbrev pub not_above : (ℕ → ℕ) → (ℕ → ℕ) → ℕ → ℕ → ℕ → Bool
not_above f g a b y = not (both_le a b (f y) (g y))

-- Of the first n sets, those that a, b is at most are gone, with their keys, and r are left. What stands behind the first n is as it was.
pub record Dropped (kept low high kept' low' high' : List ℕ) (n a b r : ℕ) : Type 0 where
  pub most : r ≤ n
  pub left : (f g : ℕ → ℕ) → Keyed f g kept low high n → take r kept' ≡ only (not_above f g a b) (take n kept)
  pub keyed : (f g : ℕ → ℕ) → Keyed f g kept low high n → Keyed f g kept' low' high' r
  pub rest : (j : ℕ) → n ≤ j → get_or kept' j 0 ≡ get_or kept j 0

-- Some of the first n sets are at most x, and nothing has changed; or none is, and x stands behind those that it is not at most.
abbrev pub Either : (ℕ → ℕ) → (ℕ → ℕ) → List ℕ → List ℕ → ℕ → ℕ → ℕ → Type 0
Either f g old new x a b =
    ((y : ℕ) × Listed old y × (both_le (f y) (g y) a b ≡ true) × (new ≡ old))
    ⊎ (((y : ℕ) → Listed old y → both_le (f y) (g y) a b ≡ true → ⊥) × (new ≡ only (not_above f g a b) old ++ (x ∷ [])))

pub record SetTakenIn (kept low high kept' low' high' : List ℕ) (n x a b r : ℕ) : Type 0 where
  pub most : r ≤ n + 1
  pub either : (f g : ℕ → ℕ) → Keyed f g kept low high n → f x ≡ a → g x ≡ b → Either f g (take n kept) (take r kept') x a b
  pub keyed : (f g : ℕ → ℕ) → Keyed f g kept low high n → f x ≡ a → g x ≡ b → Keyed f g kept' low' high' r
  pub rest : (j : ℕ) → n < j → get_or kept' j 0 ≡ get_or kept j 0

-- ---- the lowest of a list

-- By the keys that f and g give, x is at most y.
abbrev pub KeysLe : (ℕ → ℕ) → (ℕ → ℕ) → ℕ → ℕ → Type 0
KeysLe f g x y = both_le (f x) (g x) (f y) (g y) ≡ true

-- acc has of the sets p those to which no other is at most, of equal ones the first, in order; and for each of p it has one that is at most it.
pub record Front (le : ℕ → ℕ → Type 0) (p acc : List ℕ) : Type 0 where
  pub of : (x : ℕ) → Listed acc x → Listed p x
  pub least : (x y : ℕ) → Listed acc x → Listed p y → le y x → (x ≡ y) ⊎ (Before x y × le x y)
  pub cover : (y : ℕ) → Listed p y → (x : ℕ) × Listed acc x × le x y
  pub ordered : Sorted Before acc

-- What the running list asks for: n masks in order, and tables of keys.
pub record CanKeep (list : List ℕ) (n : ℕ) (low₁ high₁ low₂ high₂ : List ℕ) : Type 0 where
  pub sets : n ≤ length list
  pub few : n ≤ most_sets
  pub small : (x : ℕ) → Listed (take n list) x → x < masks
  pub ordered : Sorted Before (take n list)
  pub is_first : KeyTables low₁ high₁
  pub is_second : KeyTables low₂ high₂

-- The first r masks of `kept` are, by the keys of the tables, the lowest of the first n of the list.
pub record KeptLowest (list : List ℕ) (n : ℕ) (low₁ high₁ low₂ high₂ kept : List ℕ) (r : ℕ) : Type 0 where
  pub most : r ≤ n
  pub front : Front (KeysLe (sum_by low₁ high₁) (sum_by low₂ high₂)) (take n list) (take r kept)
