-- Inner: the least number of a list.
use Rattle.std.specs.Prelude.{List, [], ◌∷◌, ℕ, min}

-- The least of the numbers of l and d.
abbrev pub least_of : ℕ → List ℕ → ℕ
least_of d [] = d
least_of d (x ∷ l) = least_of (min d x) l
