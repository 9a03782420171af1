-- What the readers of single lines answer.
use Rattle.std.specs.Prelude.{◌≡◌, Result, Ok, Err, IfOk, List, [], ◌∷◌, Bool, cond, ◌&&◌, ℕ, ◌+◌, ◌≤◌, ◌<◌}
use Rattle.setup.specs.Bounds.{most_items, highest, most_chosen}
use Rattle.setup.specs.declared.Vertex.{Vertex}
use Rattle.setup.specs.Setup.{given}
use Rattle.questions.specs.declared.Refusal.{Refusal}
use Rattle.questions.specs.declared.Refusal.TheVariants.{Fields, Form}
use Rattle.questions.specs.Inner.{asked}
use Rattle.sheet_format.specs.Text.{fields_of}
use Rattle.sheet_format.specs.Fields.{number_of, is_number_to, is_kind, kind_of, is_value, field_value}
use Rattle.sheet_format.specs.Rows.{ItemRow, Doc, vertex_of, number_in, start_count, loss_count}
use Rattle.sheet_format.specs.Questions.{field, question4, question5_edge, question8, item_of, edge_of}
use Rattle.sheet_format.specs.Read.{ask, first_no, item_questions}
use Rattle.sheet_fields.specs.Inner.Keys.{key_of}
use Rattle.sheet_rows.specs.declared.ItemLine.{ItemLine}
use Rattle.sheet_rows.specs.declared.TakenItem.{TakenItem}
use Rattle.sheet_rows.specs.declared.EdgeLine.{EdgeLine}
use Rattle.sheet_rows.specs.declared.taken.TakenEdge.{TakenEdge}
use Rattle.sheet_rows.specs.Inner.NameKeys.{NameKeys}

-- What a reader of a row by itself answers: question 4, question 5, and what the row says.
abbrev pub read_line : {A : Type 0} → Bool → Bool → A → Result A Refusal
read_line four five a = cond four (cond five (Ok a) (Err Form)) (Err Fields)

-- Question 5 of the four fields behind an item's name.
unfoldable pub vertex_form : List (List ℕ) → Bool
vertex_form fs = is_kind (field fs 0) && is_value (field fs 1) && is_value (field fs 2) && is_number_to highest (field fs 3)

-- The vertex that these fields state.
unfoldable pub vertex_from : List (List ℕ) → Vertex
vertex_from fs = record { kind = kind_of (field fs 0); start = field_value (field fs 1); loss = field_value (field fs 2); rank = number_of (field fs 3) }

-- What an item row says: the key of its name, and its vertex.
abbrev pub item_line : List (List ℕ) → ItemLine
item_line fs = record { key = key_of (item_of fs).name; vertex = vertex_of (item_of fs) }

-- What an edge row says: the keys of its names, its colour, and whether it is a recovery edge.
abbrev pub edge_line : List (List ℕ) → EdgeLine
edge_line fs = record { from = key_of (edge_of fs).from; to = key_of (edge_of fs).to; colour = (edge_of fs).colour; rec = (edge_of fs).rec }

-- What is taken of an item row below `count` others.
pub record ItemTaken (l : List ℕ) (count starts losses : ℕ) (x : TakenItem) : Type 0 where
  pub room : count < most_items
  pub key : x.key ≡ key_of (item_of (fields_of l)).name
  pub vertex : x.vertex ≡ vertex_of (item_of (fields_of l))
  pub more_starts : x.starts ≡ starts + given (item_of (fields_of l)).start
  pub more_losses : x.losses ≡ losses + given (item_of (fields_of l)).loss
  pub within : (x.starts ≤ most_chosen) × (x.losses ≤ most_chosen)

-- An item row below others: questions 4 to 7.
pub record TakesItem (l low high : List ℕ) (count starts losses : ℕ) (r : Result TakenItem Refusal) : Type 0 where
  pub number : (above : Doc) → NameKeys above.items low high count → starts ≡ start_count above.items → losses ≡ loss_count above.items
      → asked r ≡ first_no (item_questions above (fields_of l))
  pub taken : IfOk r (ItemTaken l count starts losses)

-- What is taken of an edge row below item rows.
pub record EdgeTaken (l low high : List ℕ) (count : ℕ) (x : TakenEdge) : Type 0 where
  pub from : (items : List ItemRow) → NameKeys items low high count → x.from ≡ number_in items (edge_of (fields_of l)).from
  pub to : (items : List ItemRow) → NameKeys items low high count → x.to ≡ number_in items (edge_of (fields_of l)).to
  pub ends : (x.from < count) × (x.to < count)
  pub colour : x.colour ≡ (edge_of (fields_of l)).colour
  pub most : x.colour < 8
  pub rec : x.rec ≡ (edge_of (fields_of l)).rec

-- An edge row below item rows: questions 4, 5 and 8.
pub record TakesEdge (l low high : List ℕ) (count : ℕ) (r : Result TakenEdge Refusal) : Type 0 where
  pub number : (above : Doc) → NameKeys above.items low high count
      → asked r ≡ first_no (ask 4 (question4 4 (fields_of l)) ∷ ask 5 (question5_edge (fields_of l)) ∷ ask 8 (question8 above (edge_of (fields_of l))) ∷ [])
  pub taken : IfOk r (EdgeTaken l low high count)
