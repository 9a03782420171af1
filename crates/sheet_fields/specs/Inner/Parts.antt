-- Where a byte stands next, and the places at which a row of four fields is cut.
use Rattle.std.specs.Prelude.{◌≡◌, Option, Some, None, List, [], ◌∷◌, Bool, true, false, cond, ◌&&◌, ℕ, suc, ◌+◌, ◌-◌, ◌<◌, length, take, drop, eqb, ltb}
use Rattle.sheet_format.specs.Text.{fields_of}
use Rattle.sheet_format.specs.Questions.{question4}
use Rattle.sheet_fields.specs.declared.Cut.{Cut}
use Rattle.sheet_fields.specs.Inner.Forms.{read_if}

-- How many bytes stand before the first b; all of them where there is none.
unfoldable pub until : ℕ → List ℕ → ℕ
until b [] = 0
until b (a ∷ s) = cond (eqb a b) 0 (suc (until b s))

-- Does the line begin with a field that is not empty and that another one follows?
unfoldable pub more_follow : List ℕ → Bool
more_follow l = ltb 0 (until 32 l) && ltb (until 32 l) (length l)

-- The end of the field that begins at `at`, where it is not empty and another one follows.
unfoldable pub end_at : List ℕ → ℕ → Option ℕ
end_at l at = read_if (more_follow (drop at l)) (at + until 32 (drop at l))

-- The four fields of a line that is cut at these places.
abbrev pub four_fields : List ℕ → ℕ → ℕ → ℕ → List (List ℕ)
four_fields l a b c = take a l ∷ take (b - (a + 1)) (drop (a + 1) l) ∷ take (c - (b + 1)) (drop (b + 1) l) ∷ drop (c + 1) l ∷ []

-- The places are in order, and within the line.
pub record CutPlaces (l : List ℕ) (a b c : ℕ) : Type 0 where
  pub first : a < b
  pub second : b < c
  pub third : c < length l

-- A line that has four fields, none empty, is cut where the first three end.
pub record CutWell (l : List ℕ) (c : Cut) : Type 0 where
  pub yes : question4 4 (fields_of l) ≡ true
  pub places : CutPlaces l c.first c.second c.third
  pub fields : fields_of l ≡ four_fields l c.first c.second c.third

-- A line is cut exactly where it has four fields, none empty.
abbrev pub CutsFour : List ℕ → Option Cut → Type 0
CutsFour l None = question4 4 (fields_of l) ≡ false
CutsFour l (Some c) = CutWell l c
