-- The rows of the report (document 01, "Report and portal"), as texts. `name` gives the name of each vertex.
use Rattle.std.specs.Prelude.{Bool, true, false, cond, List, [], ◌∷◌, ◌++◌, ℕ, zero, suc, eqb}
use Rattle.std.specs.Int.Count.{ones}
use Rattle.sheet_format.specs.Text.{bytes_of}
use Rattle.sheet_format.specs.Fields.{decimal, dash}
use Rattle.sheet_format.specs.Rows.{line_text}
use Rattle.scores.specs.Never.{never}
use Rattle.reference.specs.Tests.{filtered, is_member}

-- n numbers from v on: v, v + 1, ..
unfoldable pub numbers_from : ℕ → ℕ → List ℕ
numbers_from v zero = []
numbers_from v (suc n) = v ∷ numbers_from (suc v) n

-- The texts of the elements of a list, one after the other.
unfoldable pub texts_of : (ℕ → List ℕ) → List ℕ → List ℕ
texts_of text [] = []
texts_of text (x ∷ l) = text x ++ texts_of text l

-- ---- fields

-- The way of a row: `open` for the opening list, `lock` for the lockout list.
unfoldable pub way_text : Bool → List ℕ
way_text false = bytes_of "open"
way_text true = bytes_of "lock"

-- The answer to whether there is a finding: `yes` or `no`.
unfoldable pub answer_text : Bool → List ℕ
answer_text true = bytes_of "yes"
answer_text false = bytes_of "no"

-- A score or a risk: `-` for never.
unfoldable pub score_text : ℕ → List ℕ
score_text r = cond (eqb r never) dash (decimal r)

-- The vertices of a set, rising.
unfoldable pub items_of : ℕ → List ℕ
items_of x = filtered (is_member x) (numbers_from 0 64)

-- Names joined by `+`.
unfoldable pub joined : (ℕ → List ℕ) → List ℕ → List ℕ
joined name [] = []
joined name (v ∷ []) = name v
joined name (v ∷ w ∷ vs) = name v ++ (43 ∷ joined name (w ∷ vs))

-- The items of a set, rising, by their names and joined by `+`.
unfoldable pub set_text : (ℕ → List ℕ) → ℕ → List ℕ
set_text name x = joined name (items_of x)

-- ---- rows

-- `order open 2 4 ordpw+token`: a set of the target's list. Size counts its items.
unfoldable pub set_row : (ℕ → List ℕ) → Bool → ℕ → ℕ → ℕ → List ℕ
set_row name loss target x sum = line_text (name target ∷ way_text loss ∷ decimal (ones x) ∷ decimal sum ∷ set_text name x ∷ [])

-- `order 1 3 yes no`: score, risk, backdoor and idle.
unfoldable pub score_row : (ℕ → List ℕ) → ℕ → ℕ → ℕ → Bool → Bool → List ℕ
score_row name target score risk back idle =
    line_text (name target ∷ score_text score ∷ score_text risk ∷ answer_text back ∷ answer_text idle ∷ [])

-- `order mail`: above, below.
unfoldable pub pair_row : (ℕ → List ℕ) → ℕ → ℕ → List ℕ
pair_row name v w = line_text (name v ∷ name w ∷ [])

-- `refused 5 2`: the number and the line of a refusal.
unfoldable pub refused_row : ℕ → ℕ → List ℕ
refused_row number line = line_text (bytes_of "refused" ∷ decimal number ∷ decimal line ∷ [])

-- ---- headers

-- The header of the first section, the lists.
unfoldable pub list_header : List ℕ
list_header = line_text (bytes_of "target way size sum items" ∷ [])

-- The header of the second section, scores and findings.
unfoldable pub score_header : List ℕ
score_header = line_text (bytes_of "target score risk back idle" ∷ [])

-- The header of the third section, the pairs that are out of rank.
unfoldable pub pair_header : List ℕ
pair_header = line_text (bytes_of "above below" ∷ [])
