-- What the inner functions ask and answer. Nothing of this has to be believed: the contract of the call does not cite it.
use Rattle.std.specs.Prelude.{◌≡◌, List, map, false, ℕ, ◌^◌, ◌≤◌, ◌<◌, length, get_or, take, drop}
use Rattle.std.specs.Int.Count.{ones}
use Rattle.vertex_set.specs.Order.{Listed, Before}
use Rattle.vertex_set.proofs.Sorted.{Sorted}
use Rattle.families.proofs.Masks.{spread}
use Rattle.sums.specs.Inner.Sums.{WeightsOf}
use Rattle.setup.specs.Bounds.{most_chosen}
use Rattle.setup.specs.declared.Setup.{Setup}
use Rattle.setup.specs.Setup.{ChosenSet}
use Rattle.formed.specs.Inner.Answerable.{Answerable}
use Rattle.bases.specs.Inner.Readers.{Values}
use Rattle.multisets.specs.Multisets.{Pairing, values_over}
use Rattle.multiset_keys.specs.Inner.{MaskKeys}
use Rattle.antichains.specs.Antichains.{most_sets}
use Rattle.multiset_fronts.specs.Inner.{Front}
use Rattle.multiset_scores.specs.Scores.{multiset_of, MultisetScore}

-- What finding the lowest sets asks for.
pub record CanFind (s : Setup) (target initial : ℕ) (points kept : List ℕ) : Type 0 where
  pub asked : Answerable s target
  pub is_chosen : ChosenSet false s initial
  pub values : Values false s points
  pub room : length kept ≡ most_sets

-- One set's multiset is at most another's, by the values of a list.
abbrev pub ValuesLe : List ℕ → ℕ → ℕ → Type 0
ValuesLe points x y = Pairing (values_over (λ (v : ℕ). get_or points v 0) x) (values_over (λ (v : ℕ). get_or points v 0) y)

-- One set's multiset is at most another's, by the start values of a setup.
abbrev pub MultisetLe : Setup → ℕ → ℕ → Type 0
MultisetLe s x y = Pairing (multiset_of s x) (multiset_of s y)

-- What comparing the sets of the first n masks asks for.
pub record CanCompare (list : List ℕ) (n initial : ℕ) : Type 0 where
  pub sets : n ≤ length list
  pub most : n ≤ most_sets
  pub few : ones initial ≤ most_chosen
  pub exact : (x : ℕ) → Listed (take n list) x → x < 2 ^ ones initial
  pub ordered : Sorted Before (take n list)

-- The tables give both keys of each set of initial vertices: the values of all initial vertices are thresholds, the first seven in one key, and
-- the others in the other.
pub record BothKeys (initial : ℕ) (points low₁ high₁ low₂ high₂ : List ℕ) : Type 0 where
  pub thresholds : List ℕ
  pub values : WeightsOf initial (λ (v : ℕ). get_or points v 0) thresholds
  pub first : MaskKeys initial points (take 7 thresholds) low₁ high₁
  pub second : MaskKeys initial points (take 7 (drop 7 thresholds)) low₂ high₂

-- The sets of masks, one after the other.
abbrev pub sets_of_masks : ℕ → List ℕ → List ℕ
sets_of_masks initial l = map (spread 64 initial) l

-- The sets of the first r masks of `kept` are the lowest of those of the first n of the list.
pub record ComparedLowest (list : List ℕ) (n initial : ℕ) (points kept : List ℕ) (r : ℕ) : Type 0 where
  pub most : r ≤ n
  pub front : Front (ValuesLe points) (sets_of_masks initial (take n list)) (sets_of_masks initial (take r kept))

-- In the place of each of the first n masks stands its set.
pub record SetsInPlace (initial : ℕ) (kept : List ℕ) (n : ℕ) (kept' : List ℕ) : Type 0 where
  pub are : take n kept' ≡ sets_of_masks initial (take n kept)

-- The first n sets of `kept` are those of the score.
pub record ScoreFound (s : Setup) (target : ℕ) (kept : List ℕ) (n : ℕ) : Type 0 where
  pub long : length kept ≡ most_sets
  pub most : n ≤ most_sets
  pub few : (x : ℕ) → Listed (take n kept) x → (x < 2 ^ 64) × (ones x ≤ most_chosen)
  pub score : MultisetScore s target (take n kept)
