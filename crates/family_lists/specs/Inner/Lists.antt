-- The sets of a family's members: their list in order, and the least sum of values over them.
use Rattle.std.specs.Prelude.{◌≡◌, List, ◌++◌, ℕ, ◌^◌, ◌≤◌, ◌<◌, length, drop}
use Rattle.std.specs.Int.Count.{ones}
use Rattle.vertex_set.specs.Set.{Member}
use Rattle.vertex_set.specs.Order.{Listed, Ordered, sum_over}
use Rattle.scores.specs.Never.{never}
use Rattle.families.specs.Inner.Family.{In, size, family_words, mask_bits, masks}
use Rattle.families.specs.Inner.Masks.{SetOfMask}
use Rattle.families.specs.Inner.Exact.{OnChosen}
use Rattle.family_lists.specs.Inner.Tables.{TablesFit, sum_by}

-- l has the sets of the members of f, each once, fewer vertices first and then the smaller number.
pub record ListOf (chosen : ℕ) (f l : List ℕ) : Type 0 where
  pub sound : (x : ℕ) → Listed l x → (m : ℕ) × (m < masks) × In f m × SetOfMask chosen m x
  pub whole : (m : ℕ) → m < masks → In f m → (x : ℕ) × Listed l x × SetOfMask chosen m x
  pub ordered : Ordered l

-- What write_sets asks for: a family on at most 14 chosen vertices, and room for all its members.
pub record Writable (chosen : ℕ) (f : List ℕ) (places : ℕ) : Type 0 where
  pub words : length f ≡ family_words
  pub few : ones chosen ≤ mask_bits
  pub exact : OnChosen chosen f
  pub room : size f ≤ places

-- The list of the members' sets stands at the front of a list that was entry, and their number is r.
pub record WroteSets (chosen : ℕ) (f entry : List ℕ) (r : ℕ) (exit : List ℕ) : Type 0 where
  pub list : List ℕ
  pub is : ListOf chosen f list
  pub count : r ≡ length list
  pub all : size f ≡ length list
  pub wrote : exit ≡ list ++ drop (length list) entry

-- What sums of values ask for: at most 14 chosen vertices, with values below 2^56, of which 64 stay below never.
pub record Summable (chosen : ℕ) (value : ℕ → ℕ) : Type 0 where
  pub few : ones chosen ≤ mask_bits
  pub small : (v : ℕ) → Member chosen v → value v < 2 ^ 56

-- The two tables give for each mask the sum of the values of its set, and every sum stays below never.
pub record SumTables (chosen : ℕ) (value : ℕ → ℕ) (low high : List ℕ) : Type 0 where
  pub fit : TablesFit low high
  pub word : chosen < 2 ^ 64
  pub below : (m : ℕ) → m < masks → sum_by low high m < never
  pub sum : (m x : ℕ) → m < masks → SetOfMask chosen m x → sum_by low high m ≡ sum_over value x

-- Some member of f stands for a set whose values sum up to r.
pub record SumOfMember (chosen : ℕ) (f : List ℕ) (value : ℕ → ℕ) (r : ℕ) : Type 0 where
  pub mask : ℕ
  pub set : ℕ
  pub below : mask < masks
  pub is : In f mask
  pub of : SetOfMask chosen mask set
  pub sum : r ≡ sum_over value set

-- r is the least sum of values over the sets of the members of f, and never, which is above every such sum, where f is empty.
pub record LeastSum (chosen : ℕ) (f : List ℕ) (value : ℕ → ℕ) (r : ℕ) : Type 0 where
  pub none : ((m : ℕ) → m < masks → In f m → ⊥) → r ≡ never
  pub below : (m : ℕ) → m < masks → In f m → r < never
  pub reached : (m : ℕ) → m < masks → In f m → SumOfMember chosen f value r
  pub least : (m x : ℕ) → m < masks → In f m → SetOfMask chosen m x → r ≤ sum_over value x

-- r is the least sum of values over the sets of the members of f, whatever values the two tables give the sums of.
pub record LeastBy (f low high : List ℕ) (r : ℕ) : Type 0 where
  pub each : (chosen : ℕ) (value : ℕ → ℕ) → SumTables chosen value low high → LeastSum chosen f value r
