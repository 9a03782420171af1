-- Lists of sets, their order, smallest sets, and the sum of values over a set.
use Rattle.std.specs.Prelude.{◌≡◌, List, [], ◌∷◌, ◌⊎◌, ℕ, zero, suc, ◌+◌, ◌*◌, ◌/◌, ◌%◌, ◌^◌, ◌<◌}
use Rattle.std.specs.Int.Count.{ones}
use Rattle.vertex_set.specs.Set.{ProperlyWithin}

-- x stands in the list.
abbrev pub Listed : List ℕ → ℕ → Type 0
Listed [] x = ⊥
Listed (y ∷ l) x = (x ≡ y) ⊎ Listed l x

-- No element of the list stands in it twice.
abbrev pub Once : List ℕ → Type 0
Once [] = Unit {0}
Once (x ∷ l) = (Listed l x → ⊥) × Once l

-- a comes before b: it has fewer vertices, or as many and is the smaller number (document 01, "Lists").
unfoldable pub Before : ℕ → ℕ → Type 0
Before a b = (ones a < ones b) ⊎ ((ones a ≡ ones b) × (a < b))

-- Each set of the list comes before all that follow it; so none stands there twice.
abbrev pub Ordered : List ℕ → Type 0
Ordered [] = Unit {0}
Ordered (x ∷ l) = ((y : ℕ) → Listed l y → Before x y) × Ordered l

-- Each number of the list is below all that follow it; so none stands there twice.
abbrev pub Rising : List ℕ → Type 0
Rising [] = Unit {0}
Rising (x ∷ l) = ((y : ℕ) → Listed l y → x < y) × Rising l

-- l has exactly the sets of which P holds, each once, fewer vertices first, then the smaller number.
pub record ListsExactly (P : ℕ → Type 0) (l : List ℕ) : Type 0 where
  pub sound : (x : ℕ) → Listed l x → P x
  pub whole : (x : ℕ) → P x → Listed l x
  pub ordered : Ordered l

-- P holds of the set x, and of no proper subset of x.
pub record Smallest (P : ℕ → Type 0) (x : ℕ) : Type 0 where
  pub is : P x
  pub none : (y : ℕ) → ProperlyWithin y x → P y → ⊥

-- The sum of the values of those vertices of s that are below n.
abbrev pub sum_below : (ℕ → ℕ) → ℕ → ℕ → ℕ
sum_below value s zero = 0
sum_below value s (suc n) = sum_below value s n + s / 2 ^ n % 2 * value n

-- The sum of the values of the vertices of s.
unfoldable pub sum_over : (ℕ → ℕ) → ℕ → ℕ
sum_over value s = sum_below value s 64
