-- Inner: keys. A key tells of a set how many of its values are at or above each of seven thresholds; it has 8 bits for each of these counts, so that
-- two sets are compared at all seven by one subtraction. Nothing of this has to be believed: no contract of an offered call cites it.
use Rattle.std.specs.Prelude.{◌≡◌, Bool, true, ◌&&◌, List, [], ◌∷◌, map, ℕ, zero, suc, ◌+◌, ◌*◌, ◌/◌, ◌%◌, ◌≤◌, ◌<◌, leb, length, get_or}
use Rattle.std.specs.Coded.{×_prop, le_prop, Coded-set, coded_ℕ}
use Rattle.vertex_set.specs.Order.{sum_over}
use Rattle.families.specs.Inner.Family.{masks}
use Rattle.family_lists.specs.Inner.Tables.{TablesFit, sum_by}
use Rattle.family_lists.specs.Inner.Lists.{SumTables}
use Rattle.multisets.specs.Meaning.{is_high}

-- The numbers of a list, 8 bits for each, the first in the lowest.
abbrev pub packed_counts : List ℕ → ℕ
packed_counts [] = 0
packed_counts (c ∷ l) = c + 256 * packed_counts l

-- Is each of the n lowest lanes of a at most that of b?
abbrev pub lanes_le : ℕ → ℕ → ℕ → Bool
lanes_le zero a b = true
lanes_le (suc n) a b = leb (a % 256) (b % 256) && lanes_le n (a / 256) (b / 256)

-- a has n lanes, and each has its highest bit free.
abbrev pub SmallLanes : ℕ → ℕ → Type 0
SmallLanes zero a = a ≡ 0
SmallLanes (suc n) a = (a % 256 < 128) × SmallLanes n (a / 256)

-- The highest bits of n lanes.
abbrev pub guards : ℕ → ℕ
guards zero = 0
guards (suc n) = 128 + 256 * guards n

-- a is a key: seven lanes, whose highest bits are free.
unfoldable pub CountKey : ℕ → Type 0
CountKey a = SmallLanes 7 a

-- That a number is a key has one proof, so that a type can keep it.
lanes-prop : (n a : ℕ) → IsProp (SmallLanes n a)
lanes-prop zero a = Coded-set coded_ℕ a 0
lanes-prop (suc n) a = ×_prop le_prop (lanes-prop n (a / 256))

pub count_key_prop : (a : ℕ) → IsProp (CountKey a)
unfolding CountKey
count_key_prop a = lanes-prop 7 a

-- Is each lane of the key a at most that of the key b?
unfoldable pub key_le : ℕ → ℕ → Bool
key_le a b = lanes_le 7 a b

-- For each of the thresholds, 1 where the value is at or above it, else 0.
abbrev pub high_marks : List ℕ → ℕ → List ℕ
high_marks thresholds value = map (λ (t : ℕ). is_high t value) thresholds

-- The columns have for each vertex the key of its value alone.
pub record Columns (values thresholds columns : List ℕ) : Type 0 where
  pub long : length columns ≡ 64
  pub few : length thresholds ≤ 7
  pub each : (v : ℕ) → v < 64 → get_or columns v 0 ≡ packed_counts (high_marks thresholds (get_or values v 0))

-- The key of a set: the sum of its vertices' columns.
abbrev pub count_key_of : List ℕ → ℕ → ℕ
count_key_of columns x = sum_over (λ (v : ℕ). get_or columns v 0) x

-- The two tables give for each mask the key of its set.
pub record MaskKeys (chosen : ℕ) (values thresholds low high : List ℕ) : Type 0 where
  pub columns : List ℕ
  pub are : Columns values thresholds columns
  pub sums : SumTables chosen (λ (v : ℕ). get_or columns v 0) low high

-- What the two tables give for a mask is a key.
pub record KeyTables (low high : List ℕ) : Type 0 where
  pub fit : TablesFit low high
  pub keys : (m : ℕ) → m < masks → CountKey (sum_by low high m)
