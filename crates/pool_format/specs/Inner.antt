-- Inner: what is worked out of two sheets before they are pooled.
use Rattle.std.specs.Prelude.{◌≡◌, Option, Some, None, List, ℕ, cond, get_or}
use Rattle.sheet_format.specs.Rows.{ItemRow, number_in}
use Rattle.sheet_format.specs.Questions.{is_known}
use Rattle.sheet_format.specs.Stated.{StandsAt}

-- The number of the name n among the items xs, if it is there.
unfoldable pub shared_place : List ItemRow → List ℕ → Option ℕ
shared_place xs n = cond (is_known xs n) (Some (number_in xs n)) None

-- The numbers that the items ys have among the items xs, for those that are there.
pub record PlacesAmong (xs ys : List ItemRow) (places : List (Option ℕ)) : Type 0 where
  pub each : (j : ℕ) (y : ItemRow) → StandsAt ys j y → get_or places j None ≡ shared_place xs y.name
