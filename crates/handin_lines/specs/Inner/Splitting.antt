-- Inner: the parts of a text from a place on.
use Rattle.std.specs.Prelude.{cond, List, [], ◌∷◌, ℕ, eqb, leb, length, drop}
use Rattle.sheet_format.specs.Text.{grow}

-- The parts of a text between its bytes b.
unfoldable pub split_on : ℕ → List ℕ → List (List ℕ)
split_on b [] = [] ∷ []
split_on b (a ∷ s) = cond (eqb a b) ([] ∷ split_on b s) (grow a (split_on b s))

-- Those from a place on; none behind the end of the text.
unfoldable pub split_from : ℕ → ℕ → List ℕ → List (List ℕ)
split_from b at l = cond (leb at (length l)) (split_on b (drop at l)) []
