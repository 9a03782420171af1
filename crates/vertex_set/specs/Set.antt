-- Sets of vertices as numbers.
use Rattle.std.specs.Prelude.{◌≡◌, Bool, true, false, ◌⊎◌, ℕ, zero, suc, ◌+◌, ◌-◌, ◌/◌, ◌%◌, ◌^◌, ◌<◌}

-- i is a vertex of the set s, which is the sum of 2^i over its vertices (document 01: item).
unfoldable pub Member : ℕ → ℕ → Type 0
Member s i = s / 2 ^ i % 2 ≡ 1

-- Every vertex of a is one of b.
pub record Within (a b : ℕ) : Type 0 where
  pub each : (i : ℕ) → Member a i → Member b i

-- a is a subset of b and not b itself.
pub record ProperlyWithin (a b : ℕ) : Type 0 where
  pub within : Within a b
  pub other : a ≡ b → ⊥

-- The two sets have a vertex in common.
pub record Meets (a b : ℕ) : Type 0 where
  pub vertex : ℕ
  pub left : Member a vertex
  pub right : Member b vertex

-- A yes says that P holds, and a no that it does not.
pub record Decides (P : Type 0) (r : Bool) : Type 0 where
  pub yes : r ≡ true → P
  pub no : r ≡ false → P → ⊥

-- Each of the two statements follows from the other.
pub record Iff (P Q : Type 0) : Type 0 where
  pub to : P → Q
  pub from : Q → P

-- r is s with the vertex v, and s itself where v is above 63 (document 01: the growing set).
pub record Inserted (s v r : ℕ) : Type 0 where
  pub taken : v < 64 → (i : ℕ) → Iff (Member r i) (Member s i ⊎ (i ≡ v))
  pub unchanged : 63 < v → r ≡ s

-- r is the set of the vertices below n, of which there are at most 64.
pub record Below (n r : ℕ) : Type 0 where
  pub each : (i : ℕ) → Iff (Member r i) ((i < n) × (i < 64))

-- How many of the vertices below n are outside the set s.
unfoldable pub count_outside : ℕ → ℕ → ℕ
count_outside zero s = 0
count_outside (suc n) s = count_outside n s + (1 - s / 2 ^ n % 2)
