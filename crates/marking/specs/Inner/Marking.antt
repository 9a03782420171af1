-- What mark_all gives: the counts of the marks of a handed-in list, whatever target the families are of.
use Rattle.std.specs.Prelude.{◌≡◌, Bool, List, [], ℕ, ◌^◌, ◌≤◌, ◌<◌}
use Rattle.std.specs.Int.Count.{ones}
use Rattle.setup.specs.Bounds.{most_chosen}
use Rattle.setup.specs.declared.Graph.{Graph}
use Rattle.setup.specs.declared.Setup.{Setup}
use Rattle.setup.specs.Setup.{ChosenSet}
use Rattle.derivations.specs.Both.{rule_of}
use Rattle.families.specs.Inner.Family.{MinimalMembers}
use Rattle.tables.specs.Inner.Table.{FamilyOfVertex}
use Rattle.bases.specs.Marks.{Mark, Repeated, Shut, Loose, Right, MarkedAs, tally}

-- The families of the target's sets and of the minimal ones, as marking reads them.
pub record Markable (loss : Bool) (s : Setup) (g : Graph) (target chosen : ℕ) (family minimal : List ℕ) : Type 0 where
  pub fits : chosen < 2 ^ 64
  pub few : ones chosen ≤ most_chosen
  pub is_chosen : ChosenSet loss s chosen
  pub is_family : FamilyOfVertex (rule_of loss g) chosen target family
  pub is_minimal : MinimalMembers family minimal

-- Whatever target the families are of: the counts are those of the marks of the list's sets.
pub record MarkedAll (chosen : ℕ) (family minimal handed : List ℕ) (right repeated shut loose : ℕ) : Type 0 where
  pub each : (loss : Bool) (s : Setup) (g : Graph) (target : ℕ) → Markable loss s g target chosen family minimal
      → (ms : List Mark) × MarkedAs loss s g target [] handed ms × (right ≡ tally Right ms) × (repeated ≡ tally Repeated ms) × (shut ≡ tally Shut ms)
      × (loose ≡ tally Loose ms)
