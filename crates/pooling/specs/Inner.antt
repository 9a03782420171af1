-- Inner: what is known of two accepted sheets before the pooled one is written, and what is written.
use Rattle.std.specs.Prelude.{◌≡◌, Option, Result, Ok, Err, List, ◌++◌, ℕ, suc, ◌≤◌, length, get_or, take, drop}
use Rattle.std.specs.Option.{MatchOption}
use Rattle.setup.specs.Bounds.{most_edges, most_chosen}
use Rattle.setup.specs.declared.Setup.{Setup}
use Rattle.sheet_format.specs.Text.{lines_of}
use Rattle.sheet_format.specs.Rows.{Doc, Valid, start_count, loss_count, item_lines, render}
use Rattle.sheet_format.specs.Names.{line_start}
use Rattle.sheet_lines.specs.Inner.Keys.{Accepts}
use Rattle.pool_format.specs.Rows.{Agree, remaining, pooled, Fits}
use Rattle.pool_format.specs.Inner.{PlacesAmong}
use Rattle.pool_text.specs.Inner.{RowsWithin, fresh_rows, with_digits, CanPut}
use Rattle.questions.specs.declared.Refusal.{Refusal}
use Rattle.questions.specs.declared.Refusal.TheVariants.{Disagree, PoolBound}
use Rattle.pooling.specs.declared.Plan.{Plan}

-- Where the item rows begin, and behind them the empty line.
pub record Starts (s : List ℕ) (a : Setup) (from : List ℕ) : Type 0 where
  pub each : (k : ℕ) → k ≤ a.count → get_or from k 0 ≡ line_start (lines_of s) (suc k)

-- What is known of two accepted sheets: their setups, where their item rows begin, rows that they are the written form of, and the places of the
-- second sheet's items in the first.
pub record BothRead (first second : List ℕ) (a b : Setup) (begins from : List ℕ) (places : List (Option ℕ)) : Type 0 where
  pub accepts_first : Accepts first a
  pub accepts_second : Accepts second b
  pub starts_first : Starts first a begins
  pub starts_second : Starts second b from
  pub one : Doc
  pub two : Doc
  pub valid_one : Valid one
  pub valid_two : Valid two
  pub is_first : first ≡ render one
  pub is_second : second ≡ render two
  pub placed : PlacesAmong one.items two.items places

-- The bounds of these counts of items, starting and losable ones, and edges.
pub record CountsInBounds (items initial losable edges : ℕ) : Type 0 where
  pub most : items ≤ 64
  pub starts : initial ≤ most_chosen
  pub losses : losable ≤ most_chosen
  pub many : edges ≤ most_edges

-- The bounds of pooled rows are asked.
abbrev pub BoundsHold : Doc → Type 0
BoundsHold p = CountsInBounds (length p.items) (start_count p.items) (loss_count p.items) (length p.edges)

-- r are the bytes of the remaining item rows, where the bounds hold.
abbrev pub BoundsFor : Doc → Doc → Option ℕ → Type 0
BoundsFor d e r = MatchOption r (BoundsHold (pooled d e) → ⊥) (λ bytes. BoundsHold (pooled d e) × (bytes ≡ length (item_lines (remaining d.items e.items))))

pub record BoundsOf (first second : List ℕ) (places : List (Option ℕ)) (r : Option ℕ) : Type 0 where
  pub each : (d e : Doc) → Valid d → Valid e → first ≡ render d → second ≡ render e → PlacesAmong d.items e.items places → BoundsFor d e r

-- The first sheet up to its empty line, the second's remaining item rows, the rest of the first sheet, the second's edge rows.
unfoldable pub pooled_text : List ℕ → List ℕ → Plan → List ℕ
pooled_text first second p =
    take p.split first ++ fresh_rows second p.from p.shared.places p.shared.count ++ drop p.split first ++
    with_digits (lines_of (drop p.start second)) p.digits 0

-- These parts are there.
pub record Parts (first second : List ℕ) (p : Plan) : Type 0 where
  pub split : p.split ≤ length first
  pub rows : RowsWithin second p.from p.shared.count
  pub edges : CanPut (lines_of (drop p.start second)) 0

-- And there is room for them.
pub record CanWrite (first second : List ℕ) (p : Plan) (out : List ℕ) : Type 0 where
  pub parts : Parts first second p
  pub room : length (pooled_text first second p) ≤ length out

-- What is planned for the rows d and e, or why they are not pooled.
pub data PlanFor (d e : Doc) (first second : List ℕ) (r : Result Plan Refusal) : Type 0 where
  disagrees : r ≡ Err Disagree → (Agree d.items e.items → ⊥) → PlanFor d e first second r
  beyond : r ≡ Err PoolBound → Agree d.items e.items → (Fits (pooled d e) → ⊥) → PlanFor d e first second r
  ready : (p : Plan) → r ≡ Ok p → Agree d.items e.items → Fits (pooled d e) → Parts first second p → pooled_text first second p ≡ render (pooled d e)
      → p.size ≡ length (render (pooled d e)) → PlanFor d e first second r

pub record PlanOf (first second : List ℕ) (r : Result Plan Refusal) : Type 0 where
  pub each : (d e : Doc) → Valid d → Valid e → first ≡ render d → second ≡ render e → PlanFor d e first second r
