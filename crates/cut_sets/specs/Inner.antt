-- What the inner functions ask and answer. Nothing of this has to be believed: the contract of the call does not cite it.
use Rattle.std.specs.Prelude.{◌≡◌, List, ℕ, ◌-◌, ◌≤◌, ◌<◌, length, get_or}
use Rattle.std.specs.Int.Count.{ones}
use Rattle.vertex_set.specs.Set.{Member, Iff}
use Rattle.setup.specs.Bounds.{most_chosen}
use Rattle.setup.specs.declared.Setup.{Setup}
use Rattle.families.specs.Inner.Family.{In, family_words, masks, size}
use Rattle.families.specs.Inner.Exact.{OnChosen}
use Rattle.family_lists.specs.Inner.Lists.{ListOf}
use Rattle.cut_sets.specs.Cuts.{CutList}

-- The family m has n members, and their sets in order are the smallest cut sets of the target.
pub record CutFamily (s : Setup) (target initial : ℕ) (m : List ℕ) (n : ℕ) : Type 0 where
  pub words : length m ≡ family_words
  pub few : ones initial ≤ most_chosen
  pub exact : OnChosen initial m
  pub count : size m ≡ n
  pub cuts : List ℕ
  pub is_list : CutList s target cuts
  pub counted : n ≡ length cuts
  pub each : (l : List ℕ) → ListOf initial m l → CutList s target l

-- ---- duals

-- r has the lanes of x in the opposite order.
pub record TurnedRound (x r : ℕ) : Type 0 where
  pub each : (i : ℕ) → i < 64 → Iff (Member r i) (Member x (63 - i))

-- The word r has the lanes that the word opposite to b in the family has not, in the opposite order.
pub record DualWord (f : List ℕ) (b r : ℕ) : Type 0 where
  pub each : (i : ℕ) → i < 64 → Iff (Member r i) (Member (get_or f (255 - b) 0) (63 - i) → ⊥)

-- g has a mask exactly if f has not the mask of all other bits.
pub record Dual (f g : List ℕ) : Type 0 where
  pub words : length g ≡ family_words
  pub each : (m : ℕ) → m < masks → Iff (In g m) (In f (masks - 1 - m) → ⊥)
