-- Inner: what the functions that write the report's lists ask for and write.
use Rattle.std.specs.Prelude.{◌≡◌, Bool, true, false, List, ℕ, ◌+◌, ◌*◌, ◌/◌, ◌≤◌, ◌<◌, length, get_or, take, drop}
use Rattle.std.specs.Int.Count.{ones}
use Rattle.vertex_set.specs.Set.{Member, Iff}
use Rattle.vertex_set.specs.Order.{sum_over}
use Rattle.setup.specs.Bounds.{largest, most_chosen}
use Rattle.setup.specs.declared.Graph.{Graph}
use Rattle.setup.specs.declared.Setup.{Setup}
use Rattle.setup.specs.Setup.{ChosenSet}
use Rattle.formed.specs.WellFormed.{WellFormed}
use Rattle.derivations.specs.Both.{rule_of}
use Rattle.report_text.specs.Inner.{longest_row}
use Rattle.report_text.specs.Rows.{texts_of, set_row}
use Rattle.sheet_format.specs.Names.{name_of}
use Rattle.report_text.specs.Report.{is_account}
use Rattle.report_rows.specs.Inner.Writing.{NamePlace, SetNamePlaces}
use Rattle.report_scores.specs.Inner.Scores.{list_room, BaseTable}
use Rattle.report_facts.specs.Texts.{slot_list}
use Rattle.report_facts.specs.Inner.Parts.{Part}

-- The names of the vertices of x have places, and are short.
pub record SetReady (sheet from to : List ℕ) (x : ℕ) : Type 0 where
  pub few : ones x ≤ most_chosen
  pub names : SetNamePlaces sheet from to x
  pub short : (v : ℕ) → Member x v → length (name_of sheet v) ≤ 16

-- The n sets of the list can be written, and row i comes next.
pub record RowsReady (sheet from to values list : List ℕ) (target i n : ℕ) : Type 0 where
  pub name : NamePlace sheet from to target
  pub short : length (name_of sheet target) ≤ 16
  pub sets : (j : ℕ) → j < n → SetReady sheet from to (get_or list j 0)
  pub long_values : length values ≡ 64
  pub small : (v : ℕ) → get_or values v 0 ≤ largest
  pub sums : (j : ℕ) → j < n → sum_over (λ (v : ℕ). get_or values v 0) (get_or list j 0) ≤ most_chosen * largest
  pub next : i ≤ n
  pub here : n ≤ length list

-- The row of the set x.
unfoldable pub row_of_set : (ℕ → List ℕ) → Bool → ℕ → List ℕ → ℕ → List ℕ
row_of_set name loss target values x = set_row name loss target x (sum_over (λ (v : ℕ). get_or values v 0) x)

-- The rows from row i on.
unfoldable pub set_rows_from : (ℕ → List ℕ) → Bool → ℕ → List ℕ → List ℕ → ℕ → ℕ → List ℕ
set_rows_from name loss target values list n i = texts_of (row_of_set name loss target values) (drop i (take n list))

-- The rows from i up to `row` stand, and with room for a row there is one at least.
pub record RowsPut (name : ℕ → List ℕ) (loss : Bool) (target : ℕ) (values list : List ℕ) (i n : ℕ) (entry : List ℕ) (at : ℕ) (exit : List ℕ) (row r : ℕ) : Type 0 where
  pub part : Part entry at (set_rows_from name loss target values list n i) (set_rows_from name loss target values list n row) exit r
  pub most : row ≤ n
  pub more : i < n → at + longest_row ≤ length entry → i < row

-- The tables of bases of some graph, and room for every list.
pub record CanLoad (k initial losable : ℕ) (opening lockout list : List ℕ) : Type 0 where
  pub vertex : k / 2 < 64
  pub few : ones initial ≤ most_chosen
  pub few_losable : ones losable ≤ most_chosen
  pub room : length list ≡ list_room
  pub graph : Graph
  pub opens : BaseTable (rule_of false graph) initial opening
  pub locks : BaseTable (rule_of true graph) losable lockout

-- The list with number k of whatever setup the tables and accounts are of; the places behind it are as they were.
pub record Loaded (k accounts initial losable : ℕ) (opening lockout entry : List ℕ) (r : ℕ) (list : List ℕ) : Type 0 where
  pub each : (s : Setup) → WellFormed s → ChosenSet false s initial → ChosenSet true s losable → BaseTable (rule_of false s.graph) initial opening
      → BaseTable (rule_of true s.graph) losable lockout → Iff (Member accounts (k / 2)) (is_account s (k / 2) ≡ true) → take r list ≡ slot_list s k
  pub most : r ≤ list_room
  pub room : length list ≡ list_room
  pub behind : drop r list ≡ drop r entry
