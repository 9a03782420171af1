-- The questions 1 to 11 (document 01, "Questions, and the number for no"), as tests. Those on a row are asked of the rows above it, as data, and of the row's fields.
use Rattle.std.specs.Prelude.{List, [], ◌∷◌, Bool, true, false, not, ◌&&◌, ◌||◌, ℕ, suc, ◌+◌, length, get_or, eqb, leb}
use Rattle.setup.specs.Bounds.{most_items, highest, highest_colour, most_edges, most_chosen, most_bytes}
use Rattle.setup.specs.Setup.{given}
use Rattle.sheet_format.specs.Text.{is_empty, same_text, all}
use Rattle.sheet_format.specs.Fields.{is_name, is_number_to, number_of, is_kind, kind_of, is_value, field_value}
use Rattle.sheet_format.specs.Rows.{ItemRow, EdgeRow, Doc, start_count, loss_count}

-- ---- the whole text

-- 1: at most 16,384 bytes?
unfoldable pub question1 : List ℕ → Bool
question1 text = leb (length text) most_bytes

-- LF, or a byte from 32 to 126.
unfoldable pub is_text_byte : ℕ → Bool
is_text_byte b = eqb b 10 || (leb 32 b && leb b 126)

-- Is there a last byte, and is it LF?
unfoldable pub ends_in_lf : List ℕ → Bool
ends_in_lf [] = false
ends_in_lf (b ∷ s) = (is_empty s && eqb b 10) || ends_in_lf s

-- 2: not empty, only LF and bytes 32 to 126, LF last?
unfoldable pub question2 : List ℕ → Bool
question2 text = all is_text_byte text && ends_in_lf text

-- ---- headers

-- 3: is this the header that belongs here?
unfoldable pub question3 : List ℕ → List ℕ → Bool
question3 header line = same_text line header

-- 10 (at the empty line after items): has an item row come?
unfoldable pub question10 : Doc → Bool
question10 above = leb 1 (length above.items)

-- ---- rows

-- The field at place i.
abbrev pub field : List (List ℕ) → ℕ → List ℕ
field fs i = get_or fs i []

-- Is none of the fields empty?
unfoldable pub none_empty : List (List ℕ) → Bool
none_empty [] = true
none_empty (f ∷ fs) = not (is_empty f) && none_empty fs

-- 4: five fields (items) or four (edges), none empty?
unfoldable pub question4 : ℕ → List (List ℕ) → Bool
question4 n fs = eqb (length fs) n && none_empty fs

-- 5: each field in its form and range? `name kind start loss rank`, with the rank 0 to 9
unfoldable pub question5_item : List (List ℕ) → Bool
question5_item fs = is_name (field fs 0) && is_kind (field fs 1) && is_value (field fs 2) && is_value (field fs 3) && is_number_to highest (field fs 4)

-- 5, of an edge: `from to colour rec`, with the colour 0 to 7 and rec 0 or 1
unfoldable pub question5_edge : List (List ℕ) → Bool
question5_edge fs = is_name (field fs 0) && is_name (field fs 1) && is_number_to highest_colour (field fs 2) && is_number_to 1 (field fs 3)

-- The item row that fields which pass question 5 state.
unfoldable pub item_of : List (List ℕ) → ItemRow
item_of fs =
    record {
      name = field fs 0;
      kind = kind_of (field fs 1);
      start = field_value (field fs 2);
      loss = field_value (field fs 3);
      rank = number_of (field fs 4);
    }

-- The edge row that fields which pass question 5 state.
unfoldable pub edge_of : List (List ℕ) → EdgeRow
edge_of fs = record { from = field fs 0; to = field fs 1; colour = number_of (field fs 2); rec = eqb (number_of (field fs 3)) 1 }

-- Is n the name of one of the item rows?
unfoldable pub is_known : List ItemRow → List ℕ → Bool
is_known [] n = false
is_known (x ∷ xs) n = same_text x.name n || is_known xs n

-- 6: (item) name not used above?
unfoldable pub question6 : Doc → ItemRow → Bool
question6 above x = not (is_known above.items x.name)

-- 8: (edge) both names known?
unfoldable pub question8 : Doc → EdgeRow → Bool
question8 above e = is_known above.items e.from && is_known above.items e.to

-- Have the two edge rows the same from, to and colour?
unfoldable pub same_edge : EdgeRow → EdgeRow → Bool
same_edge x y = same_text x.from y.from && same_text x.to y.to && eqb x.colour y.colour

-- Is one of the rows an edge with the same from, to and colour?
unfoldable pub is_repeated : List EdgeRow → EdgeRow → Bool
is_repeated [] e = false
is_repeated (x ∷ xs) e = same_edge x e || is_repeated xs e

-- 9: (edge) no earlier row with the same from, to and colour?
unfoldable pub question9 : Doc → EdgeRow → Bool
question9 above e = not (is_repeated above.edges e)

-- 7: within the bounds with this row? The most items, and the most starting and losable ones
unfoldable pub question7_item : Doc → ItemRow → Bool
question7_item above x =
    leb (suc (length above.items)) most_items && leb (start_count above.items + given x.start) most_chosen && leb (loss_count above.items + given x.loss) most_chosen

-- 7, of an edge: the most edges
unfoldable pub question7_edge : Doc → Bool
question7_edge above = leb (suc (length above.edges)) most_edges
