-- Rows as data: what makes them valid, how they are written as a text, and the setup that they state.
use Rattle.std.specs.Prelude.{◌≡◌, List, [], ◌∷◌, ◌++◌, map, Bool, true, cond, ◌⊎◌, ℕ, suc, ◌-◌, ◌^◌, ◌≤◌, length, set, replicate}
use Rattle.std.specs.Int.Bits.{bit_or}
use Rattle.setup.specs.Bounds.{most_items, highest, highest_colour, most_edges, most_chosen, most_bytes}
use Rattle.setup.specs.declared.Kind.{Kind}
use Rattle.std.specs.Prelude.{Option}
use Rattle.setup.specs.declared.Vertex.{Vertex}
use Rattle.setup.specs.declared.Graph.{Graph}
use Rattle.setup.specs.declared.Setup.{Setup}
use Rattle.setup.specs.Setup.{unused_vertex, rows_at, row, empty_graph, total, given, no_vertices}
use Rattle.formed.specs.WellFormed.{InRange}
use Rattle.sheet_format.specs.Text.{bytes_of, same_text}
use Rattle.sheet_format.specs.Fields.{is_name, decimal, kind_text, value_text}

-- An item row: name, kind, start, loss and rank.
pub record ItemRow : Type 0 where
  pub name : List ℕ
  pub kind : Kind
  pub start : Option ℕ
  pub loss : Option ℕ
  pub rank : ℕ

-- An edge row: the names that it leads from and to, its colour, and `rec`, which is true for a recovery edge.
pub record EdgeRow : Type 0 where
  pub from : List ℕ
  pub to : List ℕ
  pub colour : ℕ
  pub rec : Bool

-- The rows of a sheet: its item rows, and its edge rows.
pub record Doc : Type 0 where
  pub items : List ItemRow
  pub edges : List EdgeRow

-- ---- what makes rows valid

-- P holds of each element.
abbrev pub Each {ℓ} : {A : Type ℓ} → (A → Type 0) → List A → Type 0
Each P [] = Unit {0}
Each P (x ∷ xs) = P x × Each P xs

-- R holds between no element and a later one.
abbrev pub Apart {ℓ} : {A : Type ℓ} → (A → A → Type 0) → List A → Type 0
Apart R [] = Unit {0}
Apart R (x ∷ xs) = Each (λ y. R x y → ⊥) xs × Apart R xs

-- n is the name of an item row.
abbrev pub Known : List ItemRow → List ℕ → Type 0
Known [] n = ⊥
Known (x ∷ xs) n = (x.name ≡ n) ⊎ Known xs n

-- The two item rows have the same name.
abbrev pub SameName : ItemRow → ItemRow → Type 0
SameName x y = x.name ≡ y.name

-- The two edge rows have the same from, to and colour.
abbrev pub SameEdge : EdgeRow → EdgeRow → Type 0
SameEdge x y = (x.from ≡ y.from) × (x.to ≡ y.to) × (x.colour ≡ y.colour)

-- An item row is valid: its name has the form of one, start and loss are in range, and so is the rank.
pub record ValidItem (x : ItemRow) : Type 0 where
  pub name : is_name x.name ≡ true
  pub start : InRange x.start
  pub loss : InRange x.loss
  pub rank : x.rank ≤ highest

-- An edge row is valid beside these item rows: from and to are names of theirs, and the colour is at most 7.
pub record ValidEdge (items : List ItemRow) (e : EdgeRow) : Type 0 where
  pub from : Known items e.from
  pub to : Known items e.to
  pub colour : e.colour ≤ highest_colour

-- How many item rows are those of starting items.
unfoldable pub start_count : List ItemRow → ℕ
start_count xs = total (λ x. given x.start) xs

-- How many item rows are those of losable items.
unfoldable pub loss_count : List ItemRow → ℕ
loss_count xs = total (λ x. given x.loss) xs

-- ---- how rows are written

-- A row's fields, parted by spaces, and LF.
abbrev pub line_text : List (List ℕ) → List ℕ
line_text [] = 10 ∷ []
line_text (f ∷ []) = f ++ (10 ∷ [])
line_text (f ∷ g ∷ fs) = f ++ (32 ∷ line_text (g ∷ fs))

-- The first line of a sheet: the header of the item rows.
unfoldable pub first_header : List ℕ
first_header = bytes_of "name kind start loss rank"

-- The header of the edge rows, which comes behind the empty line.
unfoldable pub second_header : List ℕ
second_header = bytes_of "from to colour rec"

-- The five fields of an item row, as they are written.
abbrev pub item_fields : ItemRow → List (List ℕ)
item_fields x = x.name ∷ kind_text x.kind ∷ value_text x.start ∷ value_text x.loss ∷ decimal x.rank ∷ []

-- The four fields of an edge row, as they are written.
abbrev pub edge_fields : EdgeRow → List (List ℕ)
edge_fields e = e.from ∷ e.to ∷ decimal e.colour ∷ decimal (cond e.rec 1 0) ∷ []

-- The lines of item rows, one after the other.
unfoldable pub item_lines : List ItemRow → List ℕ
item_lines [] = []
item_lines (x ∷ xs) = line_text (item_fields x) ++ item_lines xs

-- The lines of edge rows, one after the other.
unfoldable pub edge_lines : List EdgeRow → List ℕ
edge_lines [] = []
edge_lines (e ∷ es) = line_text (edge_fields e) ++ edge_lines es

-- The sheet: the first header, the item rows, an empty line, the second header, the edge rows.
unfoldable pub render : Doc → List ℕ
render d = first_header ++ (10 ∷ (item_lines d.items ++ (10 ∷ (second_header ++ (10 ∷ edge_lines d.edges)))))

-- Document 01's bounds and ranges.
pub record Valid (d : Doc) : Type 0 where
  pub some : 1 ≤ length d.items
  pub most : length d.items ≤ most_items
  pub items : Each ValidItem d.items
  pub names : Apart SameName d.items
  pub starts : start_count d.items ≤ most_chosen
  pub losses : loss_count d.items ≤ most_chosen
  pub edges : Each (ValidEdge d.items) d.edges
  pub rows : Apart SameEdge d.edges
  pub many : length d.edges ≤ most_edges
  pub text : length (render d) ≤ most_bytes

-- ---- the setup that rows state

-- The number of the item with the name n: items count from 0 in row order.
unfoldable pub number_in : List ItemRow → List ℕ → ℕ
number_in [] n = 0
number_in (x ∷ xs) n = cond (same_text x.name n) 0 (suc (number_in xs n))

-- The vertex that an item row states: its four fields after the name.
abbrev pub vertex_of : ItemRow → Vertex
vertex_of x = record { kind = x.kind; start = x.start; loss = x.loss; rank = x.rank }

-- 64 places, of which the last ones are not in use.
unfoldable pub vertices_of : List ItemRow → List Vertex
vertices_of xs = map vertex_of xs ++ replicate (64 - length xs) unused_vertex

-- The graph with an edge of colour c from f to v: f is one of the needed items in v's row of that colour.
unfoldable pub with_edge : Graph → ℕ → ℕ → ℕ → Graph
with_edge g f v c = record { rows = set g.rows v (record { needs = set (rows_at g v).needs c (bit_or (row g v c) (2 ^ f)) }) }

-- The graph with the edges of the rows.
unfoldable pub with_edges : List ItemRow → Graph → List EdgeRow → Graph
with_edges xs g [] = g
with_edges xs g (e ∷ es) = with_edges xs (with_edge g (number_in xs e.from) (number_in xs e.to) e.colour) es

-- The rows of recovery edges.
unfoldable pub recovery_rows : List EdgeRow → List EdgeRow
recovery_rows [] = []
recovery_rows (e ∷ es) = cond e.rec (e ∷ recovery_rows es) (recovery_rows es)

-- An edge marked 1 stands in both graphs. Nothing is held yet, and nothing opened.
unfoldable pub setup_of : Doc → Setup
setup_of d =
    record {
      count = length d.items;
      vertices = vertices_of d.items;
      graph = with_edges d.items empty_graph d.edges;
      recovery = with_edges d.items empty_graph (recovery_rows d.edges);
      held = no_vertices;
      opened = no_vertices;
    }
