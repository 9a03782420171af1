-- A sheet of 256 edges, and a 257th (document 02, point 8).
use Rattle.std.specs.Prelude.{◌≡◌, false, List, [], ◌∷◌, ◌++◌, ℕ, zero, suc, ◌+◌, ◌/◌, ◌%◌}
use Rattle.sheet_format.specs.Read.{read_sheet}
use Rattle.living.specs.Calls.{Redrawing}
use Rattle.living.specs.Calls.{AddEdge, back, CallOf}
use Rattle.worked_examples.specs.Sheets.{lines_text}

-- Sixteen items, a to p, and an edge of colour 0 from each to each: the edge i is written as the line "a b 0 0", with the (i / 16)th letter and the (i % 16)th.
abbrev pub line_of_edge : ℕ → List ℕ
line_of_edge i = (97 + i / 16) ∷ 32 ∷ (97 + i % 16) ∷ 32 ∷ 48 ∷ 32 ∷ 48 ∷ 10 ∷ []

abbrev pub first_edges : ℕ → List ℕ
first_edges zero = []
first_edges (suc n) = first_edges n ++ line_of_edge n

abbrev pub items_only : List ℕ
items_only =
    lines_text
    ("name kind start loss rank"
    ∷ "a c - - 0" ∷ "b c - - 0" ∷ "c c - - 0" ∷ "d c - - 0" ∷ "e c - - 0" ∷ "f c - - 0" ∷ "g c - - 0" ∷ "h c - - 0"
    ∷ "i c - - 0" ∷ "j c - - 0" ∷ "k c - - 0" ∷ "l c - - 0" ∷ "m c - - 0" ∷ "n c - - 0" ∷ "o c - - 0" ∷ "p c - - 0"
    ∷ ""
    ∷ "from to colour rec"
    ∷ [])

abbrev pub crowded : List ℕ
crowded = items_only ++ first_edges 256

-- The sheet is read, and one more edge, of a colour of its own, is refused with 7.
pub record EdgeTooMany : Type 0 where
  pub reads : (read_sheet crowded).number ≡ 0
  pub refused : (r : Redrawing) → CallOf (AddEdge 0 0 1 false) (read_sheet crowded).setup r → r ≡ back (read_sheet crowded).setup 7
