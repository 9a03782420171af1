-- The lists of cut sets hold: each is computed by a function that is proved to give the list.
-- Assumes nothing.
use mathlib.Core.Path.{◌≡◌, refl, subst}
use mathlib.Core.List.{List, [], ◌∷◌}
use Rattle.sheet_format.specs.Rows.{Each}
use Rattle.reference.specs.Tests.{lowest, some, every, filtered, is_listed, is_member, is_within, is_meeting, with_vertex}
use Rattle.reference.specs.Closures.{is_complete, is_broken, colour_of, is_added, pass_of, passes_of, closure_of, derives_of}
use Rattle.reference.specs.Bases.{is_chosen, sets_of_size, sets_up_to, sets_of, target_sets_of, is_minimal, base_of}
use Rattle.cut_sets.specs.Cuts.{CutList}
use Rattle.cut_sets.proofs.Computed.{meets_each, smaller_of, is_smallest, transversals_of, cuts_of, cuts-of}
use Rattle.worked_examples.specs.Sheets.{ReadsSheet}
use Rattle.worked_examples.specs.CutSets.{CutExample, Cuts, cut_examples, AllCut}
use Rattle.worked_examples.proofs.Reading.{◌&◌, reads-well, read-bench, read-ring, read-alone, read-closed, read-loop, read-spare, read-relay}

-- The sheet is read, and the list computed.
abbrev Shown : CutExample → Type 0
Shown x = ReadsSheet x.sheet × (cuts_of x.sheet.setup x.target ≡ x.cuts)

all-cut-of : (l : List CutExample) → Each Shown l → Each Cuts l
all-cut-of [] s = tt
all-cut-of (x ∷ l) s = (
  record {
    setup = x.sheet.setup;
    reading = s.0.0;
    holds = subst (CutList x.sheet.setup x.target) s.0.1 (cuts-of x.sheet.setup x.target (reads-well x.sheet s.0.0));
  },
  all-cut-of l s.1,
)

all_shown : Each Shown cut_examples
unfolding lowest some every filtered is_listed is_member is_within is_meeting with_vertex is_complete is_broken colour_of is_added pass_of passes_of closure_of derives_of is_chosen sets_of_size sets_up_to sets_of target_sets_of is_minimal base_of meets_each smaller_of is_smallest transversals_of cuts_of
all_shown =
    (read-bench, refl) & (read-bench, refl) & (read-bench, refl) & (read-ring, refl) & (read-ring, refl) & (read-relay, refl) & (read-relay, refl) & (read-alone, refl) & (read-closed, refl) & (read-loop, refl)
    & (read-spare, refl) & tt

pub all-cut : AllCut
all-cut = all-cut-of cut_examples all_shown
