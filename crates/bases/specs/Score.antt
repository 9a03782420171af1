-- Scores (document 003, definitions 8 and 22; document 01, "Scores and findings").
use Rattle.std.specs.Prelude.{◌≡◌, Bool, List, ℕ, ◌*◌, ◌≤◌, ◌<◌}
use Rattle.vertex_set.specs.Set.{Member}
use Rattle.vertex_set.specs.Order.{Listed, sum_over}
use Rattle.scores.specs.Never.{never}
use Rattle.setup.specs.Bounds.{largest, most_chosen}
use Rattle.setup.specs.declared.Graph.{Graph}
use Rattle.setup.specs.declared.Setup.{Setup}
use Rattle.setup.specs.Setup.{points, value_of, vertex_at, Chosen}
use Rattle.formed.specs.WellFormed.{WellFormed}
use Rattle.bases.specs.Base.{TargetSet}

-- The start value of the vertex v, or for lockout its loss value.
abbrev pub points_at : Bool → Setup → ℕ → ℕ
points_at loss s v = points (value_of loss (vertex_at s v))

-- The sum of the values of the vertices of x.
abbrev pub sum_of : Bool → Setup → ℕ → ℕ
sum_of loss s x = sum_over (points_at loss s) x

-- Every sum holds (document 02, point 5): whichever initial (losable) vertices of a well-formed setup are added up, their sum is at most that
-- of the most vertices with the largest value, and below never.
abbrev pub SumsHold : Type 0
SumsHold = (loss : Bool) (s : Setup) (x : ℕ) → WellFormed s → ((v : ℕ) → Member x v → Chosen loss s v) → (sum_of loss s x ≤ most_chosen * largest) × (sum_of loss s x < never)

-- r is the least sum over the sets of which P holds: never exactly where there is none.
pub record LeastOver (P : ℕ → Type 0) (sum : ℕ → ℕ) (r : ℕ) : Type 0 where
  pub none : ((x : ℕ) → P x → ⊥) → r ≡ never
  pub some : (x : ℕ) → P x → r < never
  pub least : (x : ℕ) → P x → r ≤ sum x
  pub reached : r < never → (x : ℕ) × P x × (r ≡ sum x)

-- r is the security score of the target, or the recoverability score: never exactly where no set of initial (losable) vertices has a
-- derivation of it, else the least sum over all sets that have one.
abbrev pub Score : Bool → Setup → Graph → ℕ → ℕ → Type 0
Score loss s g target r = LeastOver (TargetSet loss s g target) (sum_of loss s) r

-- r is the score over a list of sets: never where the list is empty, else the least sum over its sets.
abbrev pub ScoreOver : Bool → Setup → List ℕ → ℕ → Type 0
ScoreOver loss s l r = LeastOver (Listed l) (sum_of loss s) r
