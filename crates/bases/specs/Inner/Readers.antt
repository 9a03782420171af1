-- What the readers of a table ask and give. Nothing of this has to be believed: no contract of an offered call cites it.
use Rattle.std.specs.Prelude.{◌≡◌, Bool, List, ℕ, ◌≤◌, ◌<◌, length, get_or}
use Rattle.std.specs.Int.Count.{ones}
use Rattle.setup.specs.Bounds.{most_chosen}
use Rattle.setup.specs.declared.Graph.{Graph}
use Rattle.setup.specs.declared.Setup.{Setup}
use Rattle.setup.specs.Setup.{ChosenSet}
use Rattle.formed.specs.WellFormed.{WellFormed}
use Rattle.derivations.specs.Both.{rule_of}
use Rattle.families.specs.Inner.Family.{MinimalMembers, size, family_words}
use Rattle.families.specs.Inner.Exact.{OnChosen}
use Rattle.family_lists.specs.Inner.Lists.{ListOf}
use Rattle.tables.specs.Inner.Table.{FamilyOfVertex}
use Rattle.bases.specs.Base.{Base}
use Rattle.bases.specs.Score.{points_at, Score, ScoreOver}

-- What base_family asks for.
pub record CanList (loss : Bool) (s : Setup) (target chosen : ℕ) : Type 0 where
  pub formed : WellFormed s
  pub vertex : target < 64
  pub is_chosen : ChosenSet loss s chosen

-- The family m has n members, and their sets in order are the target's base.
pub record BaseFamily (loss : Bool) (s : Setup) (g : Graph) (target chosen : ℕ) (m : List ℕ) (n : ℕ) : Type 0 where
  pub words : length m ≡ family_words
  pub few : ones chosen ≤ most_chosen
  pub exact : OnChosen chosen m
  pub count : size m ≡ n
  pub base : List ℕ
  pub is_base : Base loss s g target base
  pub counted : n ≡ length base
  pub each : (l : List ℕ) → ListOf chosen m l → Base loss s g target l

-- The target's family, and that of its minimal members.
pub record BothFamilies (loss : Bool) (s : Setup) (g : Graph) (target chosen : ℕ) (f m : List ℕ) (n : ℕ) : Type 0 where
  pub is_family : FamilyOfVertex (rule_of loss g) chosen target f
  pub is_minimal : MinimalMembers f m
  pub base : BaseFamily loss s g target chosen m n

-- r has the values of all vertices.
pub record Values (loss : Bool) (s : Setup) (r : List ℕ) : Type 0 where
  pub long : length r ≡ 64
  pub each : (v : ℕ) → get_or r v 0 ≡ points_at loss s v

-- r is the score, over all sets and so over the base.
pub record ScoreBoth (loss : Bool) (s : Setup) (g : Graph) (target r : ℕ) : Type 0 where
  pub all : Score loss s g target r
  pub base : (l : List ℕ) → Base loss s g target l → ScoreOver loss s l r
