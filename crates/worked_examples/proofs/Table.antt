-- The table holds: each entry's sheet is read, and the entry computed by the executable definitions, which are the declared ones.
-- Assumes nothing.
use mathlib.Core.Path.{◌≡◌, refl, sym, ap, subst, ◌∙◌}
use mathlib.Core.Bool.{true, false}
use mathlib.Core.List.{List, [], ◌∷◌}
use Prim.Native.Nat.{ℕ}
use Rattle.vertex_set.specs.Set.{Member}
use Rattle.vertex_set.specs.Order.{sum_over}
use Rattle.setup.specs.declared.Setup.{Setup}
use Rattle.derivations.specs.Access.{access, AccessFrom}
use Rattle.derivations.specs.Lockout.{LockoutFrom}
use Rattle.derivations.specs.Passes.{Passes}
use Rattle.derivations.specs.Way.{Way}
use Rattle.bases.specs.Base.{Base}
use Rattle.bases.specs.Score.{Score}
use Rattle.sheet_format.specs.Read.{Reading}
use Rattle.sheet_format.specs.Rows.{Each}
use Rattle.reference.specs.Tests.{lowest, some, every, filtered, is_listed, is_member, is_within, is_meeting, with_vertex}
use Rattle.reference.specs.Closures.{is_complete, is_broken, colour_of, is_added, pass_of, passes_of, count_of, closure_of, pass_count_of, derives_of, next_vertex, steps_of, way_of}
use Rattle.reference.specs.Bases.{is_chosen, sets_of_size, sets_up_to, sets_of, target_sets_of, is_minimal, base_of, least_sum, score_of, mark_of, marks_from, counts_of, marks_of}
use Rattle.reference.specs.Meaning.{Meaning}
use Rattle.reference.proofs.Graphs.{own-graph}
use Rattle.reference.proofs.Marks.{counts_of_lem}
use Rattle.reference.proofs.Meaning.{meaning}
use Rattle.worked_examples.specs.Sheets.{Sheet, ReadsSheet, Yields}
use Rattle.worked_examples.specs.Table.{Example, closure, passes, loss, opening, lockout, score, risk, way, marks, lock_marks, Holds, table, further, AllHold}
use Rattle.worked_examples.proofs.Reading.{◌&◌, reads-well, read-bench, read-ring, read-alone, read-closed, read-loop, read-pair, read-spare, read-full, read-halves}

-- The sheet of an example.
abbrev pub sheet_of : Example → Sheet
sheet_of (closure x set result) = x
sheet_of (passes x set result n) = x
sheet_of (loss x set result) = x
sheet_of (opening x target l) = x
sheet_of (lockout x target l) = x
sheet_of (score x target result) = x
sheet_of (risk x target result) = x
sheet_of (way x target set steps) = x
sheet_of (marks x target handed right repeated shut loose missing) = x
sheet_of (lock_marks x target handed right repeated shut loose missing) = x

-- What the executable definitions give for an example.
abbrev pub Computed : Example → Type 0
Computed (closure x set result) = closure_of false x.setup.count x.setup.graph set ≡ result
Computed (passes x set result n) =
    (closure_of false x.setup.count x.setup.graph set ≡ result) × (pass_count_of false x.setup.count x.setup.graph set ≡ n)
Computed (loss x set result) = closure_of true x.setup.count x.setup.graph set ≡ result
Computed (opening x target l) = base_of false x.setup x.setup.graph target ≡ l
Computed (lockout x target l) = base_of true x.setup x.setup.graph target ≡ l
Computed (score x target result) = score_of false x.setup x.setup.graph target ≡ result
Computed (risk x target result) = score_of true x.setup x.setup.graph target ≡ result
Computed (way x target set steps) =
    (derives_of false x.setup.count x.setup.graph target set ≡ true) × (way_of x.setup.count x.setup.graph target set ≡ steps)
Computed (marks x target handed right repeated shut loose missing) =
    marks_of false x.setup x.setup.graph target handed ≡ right ∷ repeated ∷ shut ∷ loose ∷ missing ∷ []
Computed (lock_marks x target handed right repeated shut loose missing) =
    marks_of true x.setup x.setup.graph target handed ≡ right ∷ repeated ∷ shut ∷ loose ∷ missing ∷ []

means : (x : Sheet) → ReadsSheet x → Meaning x.setup x.setup.graph
means x r = let w = reads-well x r in meaning x.setup x.setup.graph w (own-graph x.setup w)

-- what holds of the expected setup holds of what is read, if that is the expected one
of-read : (x : Sheet) (P : Setup → Type 0) → ReadsSheet x → P x.setup → Yields x P
of-read x P r h = record { setup = x.setup; reading = r; holds = h }

-- .. and the other way round
pub held : (x : Sheet) (P : Setup → Type 0) → ReadsSheet x → Yields x P → P x.setup
held x P r y = subst P (ap (λ (z : Reading). z.setup) (sym y.reading ∙ r)) y.holds

-- what is computed holds
holds : (e : Example) → ReadsSheet (sheet_of e) → Computed e → Holds e
holds (closure x set result) r c = of-read x _ r (subst (AccessFrom x.setup.graph set) c ((means x r).closure false set))
holds (passes x set result n) r c =
    of-read x _ r (subst (Passes (access x.setup.graph) n set) c.0
    (subst (λ (k : ℕ). Passes (access x.setup.graph) k set (closure_of false x.setup.count x.setup.graph set)) c.1 ((means x r).passes false set)))
holds (loss x set result) r c = of-read x _ r (subst (LockoutFrom x.setup.graph set) c ((means x r).closure true set))
holds (opening x target l) r c = of-read x _ r (subst (Base false x.setup x.setup.graph target) c ((means x r).base false target))
holds (lockout x target l) r c = of-read x _ r (subst (Base true x.setup x.setup.graph target) c ((means x r).base true target))
holds (score x target result) r c = of-read x _ r (subst (Score false x.setup x.setup.graph target) c ((means x r).score false target))
holds (risk x target result) r c = of-read x _ r (subst (Score true x.setup x.setup.graph target) c ((means x r).score true target))
holds (way x target set steps) r c = of-read x _ r (subst (Way x.setup.graph target (Member set)) c.1 ((means x r).way target set c.0))
holds (marks x target handed right repeated shut loose missing) r c =
    of-read x _ r (counts_of_lem false x.setup x.setup.graph target (reads-well x r) (own-graph x.setup (reads-well x r)) handed right repeated shut loose missing c)
holds (lock_marks x target handed right repeated shut loose missing) r c =
    of-read x _ r (counts_of_lem true x.setup x.setup.graph target (reads-well x r) (own-graph x.setup (reads-well x r)) handed right repeated shut loose missing c)

-- An entry of the table is computed, and its sheet read.
abbrev pub Shown : Example → Type 0
Shown e = ReadsSheet (sheet_of e) × Computed e

pub all_hold : (l : List Example) → Each Shown l → AllHold l
all_hold [] s = tt
all_hold (e ∷ l) s = (holds e s.0.0 s.0.1, all_hold l s.1)

table-shown : Each Shown table
unfolding lowest some every filtered is_listed is_member is_within is_meeting with_vertex is_complete is_broken colour_of is_added pass_of passes_of count_of closure_of pass_count_of derives_of next_vertex steps_of way_of is_chosen sets_of_size sets_up_to sets_of target_sets_of is_minimal base_of least_sum score_of mark_of marks_from counts_of marks_of sum_over
table-shown =
    (read-bench, refl) & (read-bench, refl) & (read-bench, refl) & (read-bench, refl) & (read-bench, refl) & (read-bench, refl) & (read-bench, (refl, refl)) & (read-bench, refl)
    & (read-ring, refl) & (read-alone, refl) & (read-closed, refl) & (read-loop, refl) & (read-loop, refl) & (read-pair, refl) & tt

-- B1 to B12
pub table-holds : AllHold table
table-holds = all_hold table table-shown

further-shown : Each Shown further
unfolding lowest some every filtered is_listed is_member is_within is_meeting with_vertex is_complete is_broken colour_of is_added pass_of passes_of count_of closure_of pass_count_of derives_of next_vertex steps_of way_of is_chosen sets_of_size sets_up_to sets_of target_sets_of is_minimal base_of least_sum score_of mark_of marks_from counts_of marks_of sum_over
further-shown =
    (read-bench, (refl, refl)) & (read-bench, (refl, refl)) & (read-bench, (refl, refl)) & (read-bench, (refl, refl)) & (read-bench, (refl, refl)) & (read-ring, (refl, refl))
    & (read-pair, (refl, refl)) & (read-bench, refl) & (read-bench, refl) & (read-ring, refl) & (read-bench, (refl, refl)) & (read-bench, (refl, refl)) & (read-closed, refl) & (read-bench, refl) & (read-bench, refl)
    & (read-spare, refl) & (read-spare, refl) & (read-spare, refl) & (read-spare, refl) & (read-spare, (refl, refl)) & (read-full, refl) & (read-full, refl) & (read-halves, refl) & (read-halves, refl)
    & (read-halves, refl) & (read-halves, refl) & (read-halves, refl) & tt

-- and what B1 to B12 leave open
pub further-holds : AllHold further
further-holds = all_hold further further-shown
