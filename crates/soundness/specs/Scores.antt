-- The product's three kinds of score are sound (document 003, theorems 3 to 5).
use Rattle.std.specs.Prelude.{◌≡◌, Bool, false, List, [], ◌∷◌, ℕ, min, ◌≤◌}
use Rattle.setup.specs.declared.Graph.{Graph}
use Rattle.setup.specs.declared.Setup.{Setup}
use Rattle.formed.specs.WellFormed.{WellFormed}
use Rattle.scores.specs.Never.{never}
use Rattle.bases.specs.Base.{Base}
use Rattle.bases.specs.Score.{sum_of, Score}
use Rattle.multiset_scores.specs.Scores.{MultisetScore, BagScoreAtMost}
use Rattle.attackers.specs.Attackers.{AttackerScore, EntriesFit, KindsAtMost}
use Rattle.soundness.specs.Secure.{BaseAtMost}
use Rattle.soundness.specs.Schemes.{Scheme, GrowsWithSets, GrowsWithValues, score_by, Sound}

-- ---- the sum, then the least (definition 8)

-- The least value of the list, and at most never; so never where it is empty.
abbrev pub least_value : List ℕ → ℕ
least_value [] = never
least_value (x ∷ l) = min x (least_value l)

-- Definition 8's scheme, of start values or for lockout of loss values.
abbrev pub sum_then_least : Bool → Setup → Scheme
sum_then_least loss s = record { Value = ℕ; AtMost = ◌≤◌; eval_set = sum_of loss s; combine = least_value }

-- A score or risk is one of this scheme: what the sums over the base make.
abbrev pub ScoreIsLeast : Type 0
ScoreIsLeast = (loss : Bool) (s : Setup) (g : Graph) (target r : ℕ) (l : List ℕ) → Base loss s g target l → Score loss s g target r
    → r ≡ score_by (sum_then_least loss s) l

-- Both conditions of theorem 2 hold of it.
abbrev pub SumMeetsBoth : Type 0
SumMeetsBoth = (loss : Bool) (s : Setup) → GrowsWithSets (sum_then_least loss s) loss s × GrowsWithValues (sum_then_least loss s)

-- Theorem 3, in the paper's words: the scheme is sound.
abbrev pub SumThenLeastSound : Type 0
SumThenLeastSound = (loss : Bool) (s : Setup) (g : Graph) → Sound (sum_then_least loss s) loss s g

-- And so of the product's scores and risks. Where the base of b is at least as secure as that of a, the score of a is at most that of b. Of every
-- setup and graph.
abbrev pub ScoresSound : Type 0
ScoresSound = (loss : Bool) (s : Setup) (g : Graph) (a b p q : ℕ) → Score loss s g a p → Score loss s g b q → BaseAtMost loss s g a b → p ≤ q

-- ---- the scores that keep their parts, and the kinds of intruder (definitions 14 and 17)

-- Theorem 4, of every setup.
abbrev pub MultisetsSound : Type 0
MultisetsSound = (s : Setup) (a b : ℕ) (l k : List ℕ) → MultisetScore s a l → MultisetScore s b k → BaseAtMost false s s.graph a b
    → BagScoreAtMost s l k

-- Theorem 5, for six kinds. `KindsSound` says the same, with definition 9 written out.
abbrev pub AttackersSound : Type 0
AttackersSound = (s : Setup) (kinds : List ℕ) (a b p q : ℕ) → WellFormed s → EntriesFit s kinds → AttackerScore s kinds a p → AttackerScore s kinds b q
    → BaseAtMost false s s.graph a b → KindsAtMost p q
