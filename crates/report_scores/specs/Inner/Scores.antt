-- What the report reads from a table of all subsets. Nothing of this has to be believed: no contract of an offered call cites it.
use Rattle.std.specs.Prelude.{◌≡◌, Bool, List, ℕ, ◌*◌, ◌≤◌, ◌<◌, length, get_or, take, drop}
use Rattle.std.specs.Int.Count.{ones}
use Rattle.setup.specs.Bounds.{largest, most_chosen}
use Rattle.setup.specs.declared.Graph.{Graph}
use Rattle.setup.specs.declared.Setup.{Setup}
use Rattle.setup.specs.Setup.{ChosenSet}
use Rattle.formed.specs.WellFormed.{WellFormed}
use Rattle.derivations.specs.Derivation.{Rule}
use Rattle.derivations.specs.Both.{rule_of}
use Rattle.families.specs.Inner.Family.{family_words, masks, MinimalMembers}
use Rattle.family_lists.specs.Inner.Lists.{LeastBy}
use Rattle.tables.specs.Inner.Table.{table_words, FamilyOfVertex}
use Rattle.bases.specs.Base.{Base}
use Rattle.bases.specs.Score.{Score}

-- Room for any list: a family has no more members than there are masks.
abbrev pub list_room : ℕ
list_room = masks

-- The words of the vertex v in a table.
abbrev pub words_at : List ℕ → ℕ → List ℕ
words_at w v = take family_words (drop (v * family_words) w)

-- m has the minimal ones of the masks from whose sets v has a derivation.
pub record BaseAt (r : Rule) (chosen v : ℕ) (m : List ℕ) : Type 0 where
  pub family : List ℕ
  pub is_family : FamilyOfVertex r chosen v family
  pub is_minimal : MinimalMembers family m

-- w is the table of bases of the rule r and the chosen vertices: for each vertex the family of its minimal masks.
pub record BaseTable (r : Rule) (chosen : ℕ) (w : List ℕ) : Type 0 where
  pub words : length w ≡ table_words
  pub each : (v : ℕ) → v < 64 → BaseAt r chosen v (words_at w v)

-- w is the table of bases of the graph and the chosen vertices, and `score` gives the score of each vertex.
pub record Scored (loss : Bool) (s : Setup) (g : Graph) (w : List ℕ) (score : ℕ → ℕ) : Type 0 where
  pub table : (chosen : ℕ) → ChosenSet loss s chosen → BaseTable (rule_of loss g) chosen w
  pub each : (v : ℕ) → v < 64 → Score loss s g v (score v)

-- `score` gives the numbers of the list, in order.
pub record Numbers (numbers : List ℕ) (score : ℕ → ℕ) : Type 0 where
  pub each : (v : ℕ) → v < 64 → score v ≡ get_or numbers v 0

-- What list_from asks for: the table of bases of some graph, and room for every list.
pub record CanRead (w : List ℕ) (chosen target : ℕ) (out : List ℕ) : Type 0 where
  pub vertex : target < 64
  pub room : length out ≡ list_room
  pub few : ones chosen ≤ most_chosen
  pub loss : Bool
  pub graph : Graph
  pub table : BaseTable (rule_of loss graph) chosen w

-- The first r places of out are the target's base, whatever setup and graph w is the table of bases of; the places behind them are as they were.
pub record Listing (w : List ℕ) (chosen target : ℕ) (entry : List ℕ) (r : ℕ) (out : List ℕ) : Type 0 where
  pub room : length out ≡ list_room
  pub count : r ≤ list_room
  pub behind : drop r out ≡ drop r entry
  pub each : (loss : Bool) (s : Setup) (g : Graph) → WellFormed s → ChosenSet loss s chosen → BaseTable (rule_of loss g) chosen w
      → Base loss s g target (take r out)

-- What set_sum asks for: values of all vertices, small enough for every sum.
pub record Summands (values : List ℕ) : Type 0 where
  pub long : length values ≡ 64
  pub small : (v : ℕ) → get_or values v 0 ≤ largest

-- m has the minimal members of f, and r is the least sum over them by the tables low and high.
pub record Kept (f low high m : List ℕ) (r : ℕ) : Type 0 where
  pub minimal : MinimalMembers f m
  pub least : LeastBy m low high r

-- The target's family is cut down to its minimal members, r is the least sum over them, and the words of every other vertex are as before.
pub record KeptAt (entry low high : List ℕ) (target r : ℕ) (exit : List ℕ) : Type 0 where
  pub words : length exit ≡ table_words
  pub own : Kept (words_at entry target) low high (words_at exit target) r
  pub other : (v : ℕ) → v < 64 → (v ≡ target → ⊥) → words_at exit v ≡ words_at entry v

-- Each vertex's family is cut down to its minimal members, and out has the least sums over them.
pub record KeptAll (entry low high exit out : List ℕ) : Type 0 where
  pub words : length exit ≡ table_words
  pub long : length out ≡ 64
  pub each : (v : ℕ) → v < 64 → Kept (words_at entry v) low high (words_at exit v) (get_or out v 0)
