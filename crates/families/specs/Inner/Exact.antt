-- Families that have the masks of exactly those sets that satisfy a predicate.
use Rattle.std.specs.Prelude.{List, ℕ, ◌*◌, ◌^◌, ◌≤◌, ◌<◌}
use Rattle.std.specs.Int.Count.{ones}
use Rattle.vertex_set.specs.Set.{Iff}
use Rattle.families.specs.Inner.Family.{In, family_words, masks}
use Rattle.families.specs.Inner.Masks.{Picked}

-- No member has a bit beyond the chosen vertices' numbers.
pub record OnChosen (chosen : ℕ) (f : List ℕ) : Type 0 where
  pub below : (m : ℕ) → m < masks → In f m → m < 2 ^ ones chosen

-- f has a mask exactly if P holds of the set that it stands for, given as a predicate on vertices.
pub record FamilyOf (chosen : ℕ) (P : (ℕ → Type 0) → Type 0) (f : List ℕ) : Type 0 where
  pub each : (m : ℕ) → m < masks → Iff (In f m) (P (Picked chosen m))

-- The masks of sets of chosen vertices are in the first n words.
pub record WordsFor (chosen n : ℕ) : Type 0 where
  pub place : n ≤ family_words
  pub all : 2 ^ ones chosen ≤ n * 64
