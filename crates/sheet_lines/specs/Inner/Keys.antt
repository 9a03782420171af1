-- Inner: an accepted sheet, and the keys of its items' names.
use Rattle.std.specs.Prelude.{◌≡◌, List, ℕ, suc, ◌≤◌, ◌<◌, length, get_or}
use Rattle.setup.specs.declared.Setup.{Setup}
use Rattle.sheet_format.specs.Text.{lines_of}
use Rattle.sheet_format.specs.Rows.{Doc, Valid, render}
use Rattle.sheet_format.specs.Read.{read_sheet, accepted}
use Rattle.sheet_format.specs.Names.{line_start}
use Rattle.sheet_rows.specs.Inner.NameKeys.{NameKeys}
use Rattle.sheet_lines.specs.declared.item_keys.Keys.{Keys}

-- The sheet is accepted, and yields the setup.
pub record Accepts (s : List ℕ) (a : Setup) : Type 0 where
  pub reading : read_sheet s ≡ accepted a

-- There are lines for the header, `count` items, and one more.
pub record HasLines (s : List ℕ) (count : ℕ) : Type 0 where
  pub few : count ≤ 64
  pub lines : suc count < length (lines_of s)

-- For whatever valid rows the sheet is the written form of, r has the keys of their items' names; and where the item rows begin.
pub record SheetKeys (s : List ℕ) (count : ℕ) (r : Keys) : Type 0 where
  pub size : r.keys.count ≡ count
  pub keys : (d : Doc) → Valid d → s ≡ render d → count ≡ length d.items → NameKeys d.items r.keys.low r.keys.high r.keys.count
  pub starts : (k : ℕ) → k ≤ count → get_or r.from k 0 ≡ line_start (lines_of s) (suc k)
