-- Inner: the colours of a pooled sheet's edges, as they are worked out.
use Rattle.std.specs.Prelude.{◌≡◌, Option, Some, None, true, List, map, ℕ, ◌+◌, ◌≤◌, ◌<◌, get_or, drop}
use Rattle.std.specs.Option.{MatchOption}
use Rattle.vertex_set.specs.Set.{Member, Iff}
use Rattle.setup.specs.declared.Rows.{Rows}
use Rattle.setup.specs.declared.Graph.{Graph}
use Rattle.setup.specs.Setup.{row_of}
use Rattle.sheet_format.specs.Text.{lines_of}
use Rattle.sheet_format.specs.Rows.{EdgeRow, Doc, Each, Valid, setup_of}
use Rattle.sheet_format.specs.Stated.{StandsAt}
use Rattle.sheet_format.proofs.Rows.{edge_line}
use Rattle.sheet_format.proofs.Question12Lists.{In}
use Rattle.sheet_rows.specs.Inner.NameKeys.{NameKeys}
use Rattle.pool_format.specs.Rows.{uses_colour, new_colour, recoloured}
use Rattle.pool_format.specs.Inner.{PlacesAmong}

-- r is the lowest of 16 numbers that is no member, if there is one.
pub record LowestFree (s : ℕ) (r : Option ℕ) : Type 0 where
  pub some : (k : ℕ) → r ≡ Some k → (k < 16) × ((j : ℕ) → j < k → Member s j) × (Member s k → ⊥)
  pub none : r ≡ None → (j : ℕ) → j < 16 → Member s j

-- s is the set of the colours whose rows are not empty.
pub record Used (rows : Rows) (s : ℕ) : Type 0 where
  pub each : (c : ℕ) → Iff (Member s c) (row_of rows c ≡ 0 → ⊥)

-- The rows of the item n are those that the edge rows state: a colour is used where its row is not empty.
pub record RowsOfItem (es : List EdgeRow) (n : List ℕ) (rows : Rows) : Type 0 where
  pub each : (c : ℕ) → Iff (uses_colour es n c ≡ true) (row_of rows c ≡ 0 → ⊥)

-- r is the new colour, if it is one of 16.
pub record NewColour (first second : Rows) (c : ℕ) (r : Option ℕ) : Type 0 where
  pub each : (es fs : List EdgeRow) (n : List ℕ) → RowsOfItem es n first → RowsOfItem fs n second
      → MatchOption r (16 ≤ new_colour es fs n c) (λ k. k ≡ new_colour es fs n c)

-- The two sheets have the rows d and e: the keys are of the names of e, the places those of its items in d, and the graphs those of d and e.
pub record Both (d e : Doc) (low high : List ℕ) (count : ℕ) (places : List (Option ℕ)) (first second : Graph) : Type 0 where
  pub valid_first : Valid d
  pub valid_second : Valid e
  pub keys : NameKeys e.items low high count
  pub placed : PlacesAmong d.items e.items places
  pub first_graph : first ≡ (setup_of d).graph
  pub second_graph : second ≡ (setup_of e).graph

-- r is the row's colour in the pooled sheet; there is none where that is a ninth one.
pub record EdgeColour (line low high : List ℕ) (count : ℕ) (places : List (Option ℕ)) (first second : Graph) (r : Option ℕ) : Type 0 where
  pub each : (d e : Doc) (x : EdgeRow) → Both d e low high count places first second → In x e.edges → line ≡ edge_line x
      → MatchOption r (7 < (recoloured d e x).colour) (λ k. k ≡ (recoloured d e x).colour)

-- The colour is at most 7, and its digit stands in its place.
pub record DigitAt (d e : Doc) (digits : List ℕ) (k : ℕ) (x : EdgeRow) : Type 0 where
  pub small : (recoloured d e x).colour ≤ 7
  pub digit : get_or digits k 0 ≡ 48 + (recoloured d e x).colour

pub record ColoursOf (s : List ℕ) (start : ℕ) (low high : List ℕ) (count : ℕ) (places : List (Option ℕ)) (first second : Graph) (r : Option (List ℕ)) : Type 0 where
  pub each : (d e : Doc) → Both d e low high count places first second → lines_of (drop start s) ≡ map edge_line e.edges
      → MatchOption r (Each (λ (x : EdgeRow). x.colour ≤ 7) (map (recoloured d e) e.edges) → ⊥)
      (λ digits. (k : ℕ) (x : EdgeRow) → StandsAt e.edges k x → DigitAt d e digits k x)
