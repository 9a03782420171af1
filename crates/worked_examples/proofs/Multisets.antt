-- The examples of multisets hold: the pairings are decided by counts, and the scores computed by a function that is proved to give them.
-- Assumes nothing.
use mathlib.Core.Path.{◌≡◌, refl, subst}
use mathlib.Core.Bool.{true, false}
use mathlib.Core.List.{List, [], ◌∷◌, map}
use Prim.Native.Nat.{ℕ, ◌≤◌}
use native.Mathlib.Omega.{arith}
use lib.ListN.{length, replicate}
use Rattle.sheet_format.specs.Rows.{Each}
use Rattle.reference.specs.Tests.{lowest, some, every, filtered, is_listed, is_member, is_within, is_meeting, with_vertex}
use Rattle.reference.specs.Closures.{is_complete, is_broken, colour_of, is_added, pass_of, passes_of, closure_of, derives_of}
use Rattle.reference.specs.Bases.{is_chosen, sets_of_size, sets_up_to, sets_of, target_sets_of, is_minimal, base_of}
use Rattle.multisets.specs.Multisets.{BagAtMost, values_over, highest_first, places_of}
use Rattle.multisets.specs.Meaning.{is_high}
use Rattle.multiset_scores.specs.Scores.{multiset_of, MultisetScore}
use Rattle.multiset_scores.proofs.Computed.{fewer_at, decide-pairing, is_at_most, some_at_most, lowest_of, score_of, score-of}
use Rattle.worked_examples.specs.Sheets.{ReadsSheet}
use Rattle.worked_examples.specs.Multisets.{MultisetsOrdered, MultisetExample, HasBagScore, multiset_examples, AllScored, PlacesWritten}
use Rattle.worked_examples.proofs.Reading.{◌&◌, reads-well, read-bench, read-closed, read-spare, read-figure6, read-zeroed, read-outer, read-inner, read-later}

-- ---- the order, at examples

yes_of : (m n : List ℕ) → length m ≤ 14 → length n ≤ 14 → fewer_at m m n ≡ true → BagAtMost m n
yes_of m n a b e = record { first = a; second = b; pairing = (decide-pairing m n).yes e }

no_of : (m n : List ℕ) → fewer_at m m n ≡ false → BagAtMost m n → ⊥
no_of m n e h = (decide-pairing m n).no e h.pairing

pub multisets-ordered : MultisetsOrdered
unfolding is_high
multisets-ordered =
    record {
      higher = record { at_most = yes_of (1 ∷ 1 ∷ []) (1 ∷ 2 ∷ []) (omega arith) (omega arith) refl; not_back = no_of (1 ∷ 2 ∷ []) (1 ∷ 1 ∷ []) refl };
      more = record { at_most = yes_of (1 ∷ 2 ∷ []) (1 ∷ 1 ∷ 2 ∷ []) (omega arith) (omega arith) refl; not_back = no_of (1 ∷ 1 ∷ 2 ∷ []) (1 ∷ 2 ∷ []) refl };
      neither = record { not_first = no_of (1 ∷ 2 ∷ []) (1 ∷ 1 ∷ 1 ∷ []) refl; not_second = no_of (1 ∷ 1 ∷ 1 ∷ []) (1 ∷ 2 ∷ []) refl };
      parts = record { not_first = no_of (1 ∷ 1 ∷ []) (2 ∷ []) refl; not_second = no_of (2 ∷ []) (1 ∷ 1 ∷ []) refl };
      zero = record { not_first = no_of (3 ∷ 0 ∷ []) (4 ∷ []) refl; not_second = no_of (4 ∷ []) (3 ∷ 0 ∷ []) refl };
      nothing = record { at_most = yes_of [] (0 ∷ []) (omega arith) (omega arith) refl; not_back = no_of (0 ∷ []) [] refl };
      turned = yes_of (1 ∷ 2 ∷ []) (2 ∷ 1 ∷ []) (omega arith) (omega arith) refl;
      fourteen = yes_of (replicate 14 5) (replicate 14 5) (omega arith) (omega arith) refl;
      fifteen = λ h. let k = h.first in omega arith;
      against = λ h. let k = h.second in omega arith;
    }

-- ---- the scores

-- The sheet is read, and the score computed, with its multisets.
abbrev Shown : MultisetExample → Type 0
Shown x =
    ReadsSheet x.sheet × (score_of x.sheet.setup x.target ≡ x.sets)
    × (map (λ y. highest_first (multiset_of x.sheet.setup y)) x.sets ≡ x.multisets)

all-scored-of : (l : List MultisetExample) → Each Shown l → Each HasBagScore l
all-scored-of [] s = tt
all-scored-of (x ∷ l) s = (
  record {
    setup = x.sheet.setup;
    reading = s.0.0;
    holds = (
      subst (MultisetScore x.sheet.setup x.target) s.0.1 (score-of x.sheet.setup x.target (reads-well x.sheet s.0.0)),
      s.0.2,
    );
  },
  all-scored-of l s.1,
)

all_shown : Each Shown multiset_examples
unfolding lowest some every filtered is_listed is_member is_within is_meeting with_vertex is_complete is_broken colour_of is_added pass_of passes_of closure_of derives_of is_chosen sets_of_size sets_up_to sets_of target_sets_of is_minimal base_of values_over is_high is_at_most some_at_most lowest_of score_of
all_shown =
    (read-figure6, refl, refl) & (read-figure6, refl, refl) & (read-figure6, refl, refl) & (read-zeroed, refl, refl) & (read-outer, refl, refl) & (read-inner, refl, refl) & (read-later, refl, refl) & (read-bench, refl, refl) & (read-spare, refl, refl) & (read-bench, refl, refl)
    & (read-closed, refl, refl) & tt

pub all-scored : AllScored
all-scored = all-scored-of multiset_examples all_shown

-- ---- what is written

pub places-written : PlacesWritten
unfolding values_over places_of
places-written = record { values = refl; lengths = refl }
