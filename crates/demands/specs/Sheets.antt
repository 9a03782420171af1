-- What the calls on a sheet's bytes give, over rows as data: the reading, an item's name, and the portal's number.
use Rattle.std.specs.Prelude.{◌≡◌, Bool, List, [], ◌∷◌, ◌++◌, ◌⊎◌, ℕ, ◌+◌, ◌≤◌, length, take}
use Rattle.vertex_set.specs.Set.{Iff}
use Rattle.vertex_set.specs.Order.{Listed}
use Rattle.setup.specs.Setup.{no_items}
use Rattle.scores.specs.Never.{never}
use Rattle.sheet_format.specs.Read.{Reading}
use Rattle.sheet_format.specs.Rows.{ItemRow, Doc, first_header, item_lines, Valid, render, setup_of}
use Rattle.sheet_format.specs.Stated.{StandsAt, Stated}
use Rattle.sheet_format.specs.Meaning.{Refusal}
use Rattle.portal.specs.Portal.{PortalCall}

-- The questions that are asked of a sheet.
abbrev pub sheet_numbers : List ℕ
sheet_numbers = 1 ∷ 2 ∷ 3 ∷ 4 ∷ 5 ∷ 6 ∷ 7 ∷ 8 ∷ 9 ∷ 10 ∷ 11 ∷ []

-- The rows d are valid, and the text is their written form.
pub record RowsOf (text : List ℕ) (d : Doc) : Type 0 where
  pub valid : Valid d
  pub written : text ≡ render d

-- ---- the reading

-- r is the reading of the text: number 0 exactly where the text is the written form of some valid rows, with line 0 and the setup that they state;
-- else the refusal of its first no.
pub record Reads (text : List ℕ) (r : Reading) : Type 0 where
  -- number 0 exactly where the text is the written form of some valid rows
  pub accepted : Iff (r.number ≡ 0) ((d : Doc) × RowsOf text d)
  -- whatever valid rows it is the form of, the line is 0 and the setup is the one that they state, item by item and edge by edge
  pub states : (d : Doc) → RowsOf text d → (r.line ≡ 0) × (r.setup ≡ setup_of d) × Stated d r.setup
  -- else number and line are those of the first no, and the setup has 0 items
  pub refused : (r.number ≡ 0 → ⊥) → Refusal text r.number r.line × (r.setup ≡ no_items)

-- A text is accepted with number and line 0, or refused with one of the numbers and the setup of 0 items; and no second reading is right.
pub record SettledReading (text : List ℕ) (r : Reading) : Type 0 where
  pub outcome : ((r.number ≡ 0) × (r.line ≡ 0)) ⊎ (Listed sheet_numbers r.number × (r.setup ≡ no_items))
  pub only : (p : Reading) → Reads text p → p ≡ r

-- ---- an item's name

-- Of a sheet that begins at the place `sheet`, the part that begins at the place `at` and holds the bytes `part`.
pub record Named (text : List ℕ) (item sheet : ℕ) (part : List ℕ) (at : ℕ) : Type 0 where
  -- the name of the item's row, which begins behind the first header, its LF, and the lines of the item rows above
  pub name : (d : Doc) → RowsOf text d → (x : ItemRow) → StandsAt d.items item x → part ≡ x.name
  pub place : (d : Doc) → RowsOf text d → (x : ItemRow) → StandsAt d.items item x
      → at ≡ sheet + length (first_header ++ (10 ∷ item_lines (take item d.items)))
  -- for an item that isn't there, and for a refused sheet, the empty part at the sheet's start
  pub beyond : (d : Doc) → RowsOf text d → length d.items ≤ item → (part ≡ []) × (at ≡ sheet)
  pub refused : ((d : Doc) → RowsOf text d → ⊥) → (part ≡ []) × (at ≡ sheet)

-- A name has a byte, or the part is the empty one at the sheet's start; and no second part is right.
pub record SettledName (text : List ℕ) (item sheet : ℕ) (part : List ℕ) (at : ℕ) : Type 0 where
  pub outcome : (part ≡ [] → ⊥) ⊎ ((part ≡ []) × (at ≡ sheet))
  pub only : (p : List ℕ) (a : ℕ) → Named text item sheet p a → (p ≡ part) × (a ≡ at)

-- ---- the portal's number

-- A number up to 2^62 is an answer. A refusal is 2^62 plus one of the sheet's numbers, or plus 13. No second number is right.
pub record SettledPortal (loss : Bool) (text : List ℕ) (item r : ℕ) : Type 0 where
  pub outcome : (r ≤ never) ⊎ ((q : ℕ) × Listed (13 ∷ sheet_numbers) q × (r ≡ never + q))
  pub only : (q : ℕ) → PortalCall loss text item q → q ≡ r
