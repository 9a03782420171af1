-- Reading what stands behind the item rows.
use Rattle.std.specs.Prelude.{◌≡◌, List, ℕ, drop}
use Rattle.sheet_format.specs.Read.{Reading}
use Rattle.sheet_format.specs.Text.{lines_of}
use Rattle.sheet_format.specs.Read.{AmongItems, no_rows, read_lines}
use Rattle.sheet_items.specs.declared.Items.{Items}
use Rattle.sheet_items.specs.Inner.Items.{ItemsTaken}

-- From wherever the item rows were read, r is what the lines from there on come to.
pub record ReadsRest (s : List ℕ) (items : Items) (r : Reading) : Type 0 where
  pub each : (start : ℕ) → ItemsTaken s start items → r ≡ read_lines AmongItems no_rows 2 (lines_of (drop start s))
