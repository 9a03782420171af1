-- Inner: what is written of the second sheet's rows.
use Rattle.std.specs.Prelude.{Option, Some, None, List, [], ◌∷◌, ◌++◌, ℕ, zero, suc, ◌+◌, ◌-◌, ◌≤◌, ◌<◌, length, get_or, take, drop}
use Rattle.setup.specs.Bounds.{most_items, most_edges}
use Rattle.sheet_format.specs.Rows.{Each}

-- The rows that begin at these places lie within the sheet, one behind the other.
pub record RowsWithin (s from : List ℕ) (count : ℕ) : Type 0 where
  pub few : count ≤ most_items
  pub rise : (j : ℕ) → j < count → get_or from j 0 ≤ get_or from (suc j) 0
  pub inside : (j : ℕ) → j < count → get_or from (suc j) 0 ≤ length s

-- The row j of the sheet, with its LF.
abbrev pub row_at : List ℕ → List ℕ → ℕ → List ℕ
row_at s from j = take (get_or from (suc j) 0 - get_or from j 0) (drop (get_or from j 0) s)

-- The row of an item that has no place in the first sheet.
abbrev pub row_unless : Option ℕ → List ℕ → List ℕ
row_unless None row = row
row_unless (Some i) row = []

-- Of the first n rows, those whose item is not in the first sheet.
unfoldable pub fresh_rows : List ℕ → List ℕ → List (Option ℕ) → ℕ → List ℕ
fresh_rows s from places zero = []
fresh_rows s from places (suc n) = fresh_rows s from places n ++ row_unless (get_or places n None) (row_at s from n)

-- An edge row's line with another digit for its colour, and LF.
unfoldable pub with_digit : List ℕ → ℕ → List ℕ
with_digit l b = (take (length l - 3) l ++ (b ∷ [])) ++ (drop (length l - 3 + 1) l ++ (10 ∷ []))

-- The lines with the digits from the place k on.
unfoldable pub with_digits : List (List ℕ) → List ℕ → ℕ → List ℕ
with_digits [] digits k = []
with_digits (l ∷ ls) digits k = with_digit l (get_or digits k 0) ++ with_digits ls digits (suc k)

-- Every line has room for a digit, and there is a digit for every line, from the place k on.
pub record CanPut (ls : List (List ℕ)) (k : ℕ) : Type 0 where
  pub long : Each (λ l. 3 ≤ length l) ls
  pub few : k + length ls ≤ most_edges
