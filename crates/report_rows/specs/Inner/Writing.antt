-- Inner: what the functions that write rows ask for and write.
use Rattle.std.specs.Prelude.{◌≡◌, Bool, true, false, List, [], ◌∷◌, ℕ, ◌-◌, ◌≤◌, ◌<◌, length, take, drop, get_or}
use Rattle.vertex_set.specs.Set.{Member}
use Rattle.sheet_format.specs.Names.{name_of}
use Rattle.report_rows.specs.declared.fields.ItemNames.{ItemNames}

-- The name of the vertex v stands in the sheet from its place in `from` up to its place in `to`.
pub record NamePlace (sheet from to : List ℕ) (v : ℕ) : Type 0 where
  pub has_from : v < length from
  pub has_to : v < length to
  pub order : get_or from v 0 ≤ get_or to v 0
  pub inside : get_or to v 0 ≤ length sheet
  pub is : take (get_or to v 0 - get_or from v 0) (drop (get_or from v 0) sheet) ≡ name_of sheet v

-- So does the name of each vertex of the set x.
pub record SetNamePlaces (sheet from to : List ℕ) (x : ℕ) : Type 0 where
  pub each : (v : ℕ) → Member x v → NamePlace sheet from to v

-- The names have that of the item v.
abbrev pub NameAtHand : ItemNames → ℕ → Type 0
NameAtHand names v = NamePlace names.sheet.now names.from.now names.to.now v

-- They have those of the items of the set x.
abbrev pub NamesAtHand : ItemNames → ℕ → Type 0
NamesAtHand names x = SetNamePlaces names.sheet.now names.from.now names.to.now x

-- A `+` where another name follows.
abbrev pub plus : Bool → List ℕ
plus true = 43 ∷ []
plus false = []
