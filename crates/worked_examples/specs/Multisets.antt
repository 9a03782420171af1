-- Examples of multisets and of scores that keep their parts (document 02, point 6; document 003, examples 10 and 13), of what is read from the sheets'
-- bytes. Figure 6 is not in the text that we have: it is drawn from example 13's words.
use Rattle.std.specs.Prelude.{◌≡◌, List, [], ◌∷◌, ◌++◌, map, ℕ, replicate}
use Rattle.sheet_format.specs.Rows.{Each}
use Rattle.multisets.specs.Multisets.{BagAtMost, highest_first}
use Rattle.multiset_scores.specs.Scores.{multiset_of, MultisetScore, all_places, all_lengths}
use Rattle.worked_examples.specs.Sheets.{Sheet, Yields, bench, mailpw, token, order, closed, only, spare, pw, acc, figure6, pwd_a, pwd_b, device_b, acc_a, acc_b, either, zeroed, outer, inner, later}
use Rattle.worked_examples.specs.Table.{set_of}

-- One is at most the other, and not the other way round.
pub record ProperlyAtMost (m n : List ℕ) : Type 0 where
  pub at_most : BagAtMost m n
  pub not_back : BagAtMost n m → ⊥

-- Neither is at most the other.
pub record Incomparable (m n : List ℕ) : Type 0 where
  pub not_first : BagAtMost m n → ⊥
  pub not_second : BagAtMost n m → ⊥

pub record MultisetsOrdered : Type 0 where
  -- example 10
  pub higher : ProperlyAtMost (1 ∷ 1 ∷ []) (1 ∷ 2 ∷ [])
  pub more : ProperlyAtMost (1 ∷ 2 ∷ []) (1 ∷ 1 ∷ 2 ∷ [])
  pub neither : Incomparable (1 ∷ 2 ∷ []) (1 ∷ 1 ∷ 1 ∷ [])
  -- example 13: two of 1, and one of 2
  pub parts : Incomparable (1 ∷ 1 ∷ []) (2 ∷ [])
  -- 0 is a value, and nothing is less than it
  pub zero : Incomparable (3 ∷ 0 ∷ []) (4 ∷ [])
  pub nothing : ProperlyAtMost [] (0 ∷ [])
  -- the order of writing does not matter
  pub turned : BagAtMost (1 ∷ 2 ∷ []) (2 ∷ 1 ∷ [])
  -- 14 values are a bag, and 15 are none, whatever stands against them
  pub fourteen : BagAtMost (replicate 14 5) (replicate 14 5)
  pub fifteen : BagAtMost (replicate 15 5) (replicate 15 5) → ⊥
  pub against : BagAtMost [] (replicate 15 5) → ⊥

-- A sheet, a target, the first sets that have the multisets of its score, and these multisets with their highest values first.
pub record MultisetExample : Type 0 where
  pub sheet : Sheet
  pub target : ℕ
  pub sets : List ℕ
  pub multisets : List (List ℕ)

abbrev pub scored : Sheet → ℕ → List ℕ → List (List ℕ) → MultisetExample
scored sheet target sets multisets = record { sheet = sheet; target = target; sets = sets; multisets = multisets }

abbrev pub HasBagScore : MultisetExample → Type 0
HasBagScore x = Yields x.sheet (λ s. MultisetScore s x.target x.sets × (map (λ y. highest_first (multiset_of s y)) x.sets ≡ x.multisets))

abbrev pub multiset_examples : List MultisetExample
multiset_examples =
    -- example 13
    scored figure6 acc_a (set_of (pwd_a ∷ pwd_b ∷ []) ∷ []) ((1 ∷ 1 ∷ []) ∷ [])
    ∷ scored figure6 acc_b (set_of (device_b ∷ []) ∷ []) ((2 ∷ []) ∷ [])
    ∷ scored figure6 either (set_of (device_b ∷ []) ∷ set_of (pwd_a ∷ pwd_b ∷ []) ∷ []) ((2 ∷ []) ∷ (1 ∷ 1 ∷ []) ∷ [])
    -- 3 and 0 stay beside 4, and stand there once, though two sets have them
    ∷ scored zeroed 5 (set_of (0 ∷ []) ∷ set_of (1 ∷ 2 ∷ []) ∷ []) ((4 ∷ []) ∷ (3 ∷ 0 ∷ []) ∷ [])
    -- the first set that has 5 and 1 stands before the one of 3 and 3, though the last stands behind it; and no order of the values tells the places
    ∷ scored outer 6 (set_of (0 ∷ 1 ∷ []) ∷ set_of (2 ∷ 3 ∷ []) ∷ []) ((5 ∷ 1 ∷ []) ∷ (3 ∷ 3 ∷ []) ∷ [])
    ∷ scored inner 6 (set_of (0 ∷ 1 ∷ []) ∷ set_of (2 ∷ 3 ∷ []) ∷ []) ((3 ∷ 3 ∷ []) ∷ (5 ∷ 1 ∷ []) ∷ [])
    -- a set behind drops the one before it
    ∷ scored later 4 (set_of (2 ∷ 3 ∷ []) ∷ []) ((1 ∷ 1 ∷ []) ∷ [])
    -- the order account: {1} is at most {3, 1}, so that recovery by mail is all that is left
    ∷ scored bench order (set_of (mailpw ∷ []) ∷ []) ((1 ∷ []) ∷ [])
    -- a value of 0 is at most one of 2
    ∷ scored spare acc (set_of (pw ∷ []) ∷ []) ((0 ∷ []) ∷ [])
    -- a starting item alone; nothing opens it
    ∷ scored bench token (set_of (token ∷ []) ∷ []) ((3 ∷ []) ∷ [])
    ∷ scored closed only [] []
    ∷ []

abbrev pub AllScored : Type 0
AllScored = Each HasBagScore multiset_examples

-- What is written of a score: 14 places a multiset, with 0 in those that it does not use, and the numbers of values, which tell that one 0 is a value.
pub record PlacesWritten : Type 0 where
  pub values : all_places zeroed.setup (set_of (0 ∷ []) ∷ set_of (1 ∷ 2 ∷ []) ∷ []) ≡ 4 ∷ (replicate 13 0 ++ (3 ∷ replicate 13 0))
  pub lengths : all_lengths zeroed.setup (set_of (0 ∷ []) ∷ set_of (1 ∷ 2 ∷ []) ∷ []) ≡ 1 ∷ 2 ∷ []
