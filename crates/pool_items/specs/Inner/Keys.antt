-- Inner: where the items of the second sheet are in the first, by the keys of their names.
use Rattle.std.specs.Prelude.{◌≡◌, Option, Some, None, List, ℕ, ◌<◌, length, get_or}
use Rattle.sheet_format.specs.Rows.{ItemRow}
use Rattle.sheet_rows.specs.Inner.NameKeys.{NameKeys}
use Rattle.sheet_rows.specs.declared.ItemKeys.{ItemKeys}
use Rattle.pool_format.specs.Inner.{PlacesAmong}

-- There are 64 places, and each is one of 64.
pub record PlacesInside (places : List (Option ℕ)) : Type 0 where
  pub long : length places ≡ 64
  pub each : (j i : ℕ) → get_or places j None ≡ Some i → i < 64

-- The places of the second sheet's items in the first, for whatever item rows the keys are of.
pub record KeyPlaces (first second : ItemKeys) (r : List (Option ℕ)) : Type 0 where
  pub places : (xs ys : List ItemRow) → NameKeys xs first.low first.high first.count → NameKeys ys second.low second.high second.count → PlacesAmong xs ys r
