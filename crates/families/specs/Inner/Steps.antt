-- Inner: what the functions below minimal_members compute, in words b and lanes i; the mask is 64 * b + i.
use Rattle.std.specs.Prelude.{◌≡◌, List, ℕ, ◌-◌, ◌^◌, ◌≤◌, ◌<◌, length, get_or}
use Rattle.vertex_set.specs.Set.{Member, Iff}
use Rattle.families.specs.Inner.Family.{family_words}

-- A lane that has one bit fewer than i is in the word x.
abbrev pub StepInWord : ℕ → ℕ → Type 0
StepInWord x i = (j : ℕ) × Member i j × Member x (i - 2 ^ j)

pub record StepsInWord (x r : ℕ) : Type 0 where
  pub each : (i : ℕ) → i < 64 → Iff (Member r i) (StepInWord x i)

-- The lane i is in a word whose number has one bit fewer than b, a bit below n.
abbrev pub StepToWord : List ℕ → ℕ → ℕ → ℕ → Type 0
StepToWord f b n i = (j : ℕ) × (j < n) × Member b j × Member (get_or f (b - 2 ^ j) 0) i

pub record StepsToWord (f : List ℕ) (b n r : ℕ) : Type 0 where
  pub each : (i : ℕ) → Iff (Member r i) (StepToWord f b n i)

-- The lane i of word b is in, and nothing is in that has one bit fewer.
pub record LeastLane (f : List ℕ) (b i : ℕ) : Type 0 where
  pub is : Member (get_or f b 0) i
  pub low : StepInWord (get_or f b 0) i → ⊥
  pub high : StepToWord f b 8 i → ⊥

pub record LeastWord (f : List ℕ) (b r : ℕ) : Type 0 where
  pub each : (i : ℕ) → i < 64 → Iff (Member r i) (LeastLane f b i)

-- The words from n on are 0.
pub record ClearedFrom (n : ℕ) (d : List ℕ) : Type 0 where
  pub words : length d ≡ family_words
  pub each : (b : ℕ) → n ≤ b → b < family_words → get_or d b 0 ≡ 0
