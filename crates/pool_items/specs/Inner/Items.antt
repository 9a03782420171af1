-- Inner: agreement of items in both sheets, and what is counted of the others.
use Rattle.std.specs.Prelude.{◌≡◌, Option, Some, None, List, ℕ, suc, ◌+◌, ◌^◌, ◌≤◌, ◌<◌, length, get_or}
use Rattle.setup.specs.Bounds.{most_bytes}
use Rattle.setup.specs.declared.Vertex.{Vertex}
use Rattle.setup.specs.Setup.{unused_vertex, given}
use Rattle.sheet_format.specs.Rows.{ItemRow, vertex_of, start_count, loss_count, line_text, item_fields, item_lines}
use Rattle.sheet_format.specs.Stated.{StandsAt}
use Rattle.pool_format.specs.Rows.{remaining}
use Rattle.pool_format.specs.Inner.{PlacesAmong}
use Rattle.pool_items.specs.declared.Remaining.{Remaining}

-- Each of the second vertices that has a place in the first is the same as the one there.
pub record AllAgree (first second : List Vertex) (nb : ℕ) (places : List (Option ℕ)) : Type 0 where
  pub each : (j i : ℕ) → j < nb → get_or places j None ≡ Some i → get_or first i unused_vertex ≡ get_or second j unused_vertex

-- Sums that one item more does not make too large.
pub record Small (r : Remaining) (size : ℕ) : Type 0 where
  pub items : r.items < 64
  pub starts : r.starts < 64
  pub losses : r.losses < 64
  pub bytes : r.bytes + size < 2 ^ 64

-- One item more.
pub record WithItem (r : Remaining) (x : Vertex) (size : ℕ) (q : Remaining) : Type 0 where
  pub items : q.items ≡ r.items + 1
  pub starts : q.starts ≡ r.starts + given x.start
  pub losses : q.losses ≡ r.losses + given x.loss
  pub bytes : q.bytes ≡ r.bytes + size

-- The places at which rows begin rise.
pub record PlacesRise (from : List ℕ) (count : ℕ) : Type 0 where
  pub few : count ≤ 64
  pub rise : (j : ℕ) → j < count → get_or from j 0 ≤ get_or from (suc j) 0
  pub most : (j : ℕ) → j < count → get_or from (suc j) 0 ≤ most_bytes

-- The items ys have the vertices, and their rows have the bytes between the places.
pub record ItemRowsAt (ys : List ItemRow) (vertices : List Vertex) (from : List ℕ) : Type 0 where
  pub vertex : (j : ℕ) (y : ItemRow) → StandsAt ys j y → get_or vertices j unused_vertex ≡ vertex_of y
  pub bytes : (j : ℕ) (y : ItemRow) → StandsAt ys j y → get_or from j 0 + length (line_text (item_fields y)) ≡ get_or from (suc j) 0

-- What is counted of the items zs.
pub record ItemCounts (zs : List ItemRow) (r : Remaining) : Type 0 where
  pub items : r.items ≡ length zs
  pub starts : r.starts ≡ start_count zs
  pub losses : r.losses ≡ loss_count zs
  pub bytes : r.bytes ≡ length (item_lines zs)

-- For whatever item rows the places are of, those that remain are counted.
pub record CountsRemaining (vertices : List Vertex) (nb : ℕ) (places : List (Option ℕ)) (from : List ℕ) (r : Remaining) : Type 0 where
  pub each : (xs ys : List ItemRow) → PlacesAmong xs ys places → nb ≡ length ys → ItemRowsAt ys vertices from → ItemCounts (remaining xs ys) r
