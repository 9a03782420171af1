-- Inner: where the names of a sheet's items stand.
use Rattle.std.specs.Prelude.{◌≡◌, true, List, ℕ, ◌≤◌, ◌<◌, length}
use Rattle.sheet_format.specs.Text.{lines_of}
use Rattle.sheet_format.specs.Names.{has_item}
use Rattle.report_rows.specs.Inner.Writing.{NamePlace}
use Rattle.report_facts.specs.declared.names.Names.{Names}

-- What name_places asks for: an accepted sheet that has the first `count` items, each on a line below the header.
pub record HasItems (sheet : List ℕ) (count : ℕ) : Type 0 where
  pub few : count ≤ 64
  pub lines : count < length (lines_of sheet)
  pub items : (v : ℕ) → v < count → has_item sheet v ≡ true

-- r has the places of the names of the first `count` items.
pub record NamesPlaced (sheet : List ℕ) (count : ℕ) (r : Names) : Type 0 where
  pub each : (v : ℕ) → v < count → NamePlace sheet r.from r.to v
