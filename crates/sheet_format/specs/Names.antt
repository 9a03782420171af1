-- The name that is handed back for an item: the first field of its row, and where in the sheet it begins.
use Rattle.std.specs.Prelude.{◌≡◌, List, [], ◌∷◌, ◌++◌, map, Bool, cond, ◌&&◌, ℕ, zero, suc, ◌+◌, ◌<◌, length, get_or, take, eqb, ltb}
use Rattle.sheet_format.specs.Text.{lines_of, fields_of}
use Rattle.sheet_format.specs.Rows.{ItemRow, Doc, Valid, first_header, item_lines, render}
use Rattle.sheet_format.specs.Stated.{StandsAt}
use Rattle.sheet_format.specs.Questions.{field}
use Rattle.sheet_format.specs.Read.{read_sheet}

-- Where line k begins, counted from 0: behind the lines above it, each with its LF.
unfoldable pub line_start : List (List ℕ) → ℕ → ℕ
line_start ls zero = 0
line_start [] (suc k) = 0
line_start (l ∷ ls) (suc k) = length l + 1 + line_start ls k

-- The row of item i; the first header stands above the rows.
abbrev pub row_of_item : List ℕ → ℕ → List ℕ
row_of_item text i = get_or (lines_of text) (suc i) []

-- Is the sheet accepted, and does it have an item i?
unfoldable pub has_item : List ℕ → ℕ → Bool
has_item text i = eqb (read_sheet text).number 0 && ltb i (read_sheet text).setup.count

-- The name of item i; nothing for a refused sheet or an item that isn't there.
unfoldable pub name_of : List ℕ → ℕ → List ℕ
name_of text i = cond (has_item text i) (field (fields_of (row_of_item text i)) 0) []

-- Where the name of item i begins; at the sheet's start for a refused sheet or an item that isn't there.
unfoldable pub name_start : List ℕ → ℕ → ℕ
name_start text i = cond (has_item text i) (line_start (lines_of text) (suc i)) 0

-- In the written form of valid rows the name of item i is that of the row i.
abbrev pub NamesOfRows : Type 0
NamesOfRows = (d : Doc) → Valid d → (i : ℕ) → i < length d.items → name_of (render d) i ≡ get_or (map (λ (x : ItemRow). x.name) d.items) i []

-- The name stands in the text right behind what is above it, and there the name of item i begins.
pub record NameBegins (text above name : List ℕ) (i : ℕ) : Type 0 where
  pub rest : List ℕ
  pub whole : text ≡ above ++ (name ++ rest)
  pub begins : name_start text i ≡ length above

-- In the written form of valid rows the name of item i begins where its row does: behind the first header, its LF, and the lines of the item rows above.
abbrev pub NamePlaces : Type 0
NamePlaces = (d : Doc) → Valid d → (i : ℕ) (x : ItemRow) → StandsAt d.items i x
    → NameBegins (render d) (first_header ++ (10 ∷ item_lines (take i d.items))) x.name i
