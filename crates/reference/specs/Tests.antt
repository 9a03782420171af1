-- Tests on numbers: the lowest that passes one, the elements of a list that do, and the simplest tests on sets.
use Rattle.std.specs.Prelude.{Bool, true, false, cond, not, List, [], ◌∷◌, ℕ, zero, suc, ◌/◌, ◌%◌, ◌^◌, eqb, ltb}
use Rattle.std.specs.Int.Bits.{bit_and, bit_or}

-- The lowest number below n that passes the test; n where none does.
unfoldable pub lowest : (ℕ → Bool) → ℕ → ℕ
lowest test zero = 0
lowest test (suc n) = let later = suc (lowest (λ i. test (suc i)) n) in cond (test 0) 0 later

-- Does some number below n pass the test?
unfoldable pub some : (ℕ → Bool) → ℕ → Bool
some test n = ltb (lowest test n) n

-- Does each number below n pass the test?
unfoldable pub every : (ℕ → Bool) → ℕ → Bool
every test n = not (some (λ i. not (test i)) n)

-- The elements of the list that pass the test.
unfoldable pub filtered : (ℕ → Bool) → List ℕ → List ℕ
filtered test [] = []
filtered test (x ∷ l) = let rest = filtered test l in cond (test x) (x ∷ rest) rest

-- Does x stand in the list?
unfoldable pub is_listed : List ℕ → ℕ → Bool
is_listed [] x = false
is_listed (y ∷ l) x = let later = is_listed l x in cond (eqb x y) true later

-- Is v a vertex of the set s?
unfoldable pub is_member : ℕ → ℕ → Bool
is_member s v = eqb (s / 2 ^ v % 2) 1

-- Is each vertex of the set a one of the set b?
unfoldable pub is_within : ℕ → ℕ → Bool
is_within a b = eqb (bit_and a b) a

-- Have the sets a and b a vertex in common?
unfoldable pub is_meeting : ℕ → ℕ → Bool
is_meeting a b = not (eqb (bit_and a b) 0)

-- The set s with the vertex v.
unfoldable pub with_vertex : ℕ → ℕ → ℕ
with_vertex s v = bit_or (2 ^ v) s
