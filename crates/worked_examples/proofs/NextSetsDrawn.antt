-- Sets shown while the drawing changes: each on the setup of that moment, whose opening list is computed.
-- Assumes nothing.
use mathlib.Core.Path.{◌≡◌, refl, sym, subst}
use mathlib.Core.Bool.{false}
use mathlib.Core.List.{List, [], ◌∷◌}
use mathlib.Core.Logic.{inl, inr, ⊎_elim}
use Prim.Native.Nat.{ℕ, ◌<◌}
use native.Mathlib.Omega.{arith}
use lib.Count.{ones, ones_in}
use Rattle.vertex_set.specs.Order.{Listed, Before}
use Rattle.vertex_set.proofs.Sets.{in_one, none-in-zero}
use Rattle.setup.specs.Bounds.{most_edges}
use Rattle.setup.specs.declared.Setup.{Setup}
use Rattle.setup.specs.Setup.{Chosen, Edge, edge_count}
use Rattle.setup.specs.Inner.{graph_with_row}
use Rattle.formed.specs.WellFormed.{WellFormed}
use Rattle.questions.proofs.Contract.{fulfilled, given}
use Rattle.living.specs.Calls.{AddEdge, RemoveEdge, back, CallOf}
use Rattle.bases.specs.Base.{Base}
use Rattle.next_sets.specs.Next.{NextSet}
use Rattle.next_sets.specs.Answers.{Shown, next_call}
use Rattle.next_sets.specs.Walks.{Tells, Walk}
use Rattle.next_sets.proofs.Walks.{whole-walk}
use Rattle.reference.specs.Tests.{lowest, some, every, filtered, is_listed, is_member, is_within, is_meeting, with_vertex}
use Rattle.reference.specs.Closures.{is_complete, is_broken, colour_of, is_added, pass_of, passes_of, closure_of, derives_of}
use Rattle.reference.specs.Bases.{is_chosen, sets_of_size, sets_up_to, sets_of, target_sets_of, is_minimal, base_of}
use Rattle.reference.proofs.Bases.{own-base}
use Rattle.reference.proofs.Tests.{in-with}
use Rattle.worked_examples.specs.Sheets.{token, mail, order}
use Rattle.worked_examples.specs.NextSets.{WalkWhileDrawn}
use Rattle.worked_examples.proofs.Reading.{read-bench}
use Rattle.worked_examples.proofs.Living.{draws, more, less, unmarked, formed-after, adds, no-mark-more, is-unmarked, removes, fresh, well, placed-token}

-- the token opens mail
abbrev drawn : Setup
drawn = draws fresh (more fresh token mail 1) fresh.recovery

few : edge_count fresh.graph < most_edges
unfolding edge_count ones
few = let e : edge_count fresh.graph ≡ 4 = refl in omega arith

add : CallOf (AddEdge token mail 1 false) fresh (back drawn 0)
add = adds fresh well token mail 1 (placed-token fresh refl) false fresh.recovery (no-mark-more fresh well token mail 1 (placed-token fresh refl)) (none-in-zero token) few

drawn-well : WellFormed drawn
drawn-well = formed-after (AddEdge token mail 1 false) fresh drawn add

-- .. and no longer
abbrev gone : Setup
gone = draws drawn (less drawn token mail 1) (unmarked drawn token mail 1)

there : Edge drawn.graph token mail 1
unfolding more graph_with_row
there = (in-with 0 token token).from (inr refl)

remove : CallOf (RemoveEdge token mail 1) drawn (back gone 0)
remove =
    removes drawn drawn-well token mail 1 (placed-token drawn refl) there (unmarked drawn token mail 1) (is-unmarked drawn drawn-well token mail 1 (placed-token drawn refl) (none-in-zero token))

gone-well : WellFormed gone
gone-well = formed-after (RemoveEdge token mail 1) drawn gone remove

-- ---- the three opening lists

record Lists : Type 0 where
  at_first : base_of false fresh fresh.graph order ≡ 2 ∷ 5 ∷ []
  with-edge : base_of false drawn drawn.graph order ≡ 2 ∷ 4 ∷ []
  at_last : base_of false gone gone.graph order ≡ 2 ∷ 5 ∷ []

lists : Lists
unfolding lowest some every filtered is_listed is_member is_within is_meeting with_vertex is_complete is_broken colour_of is_added pass_of passes_of closure_of derives_of is_chosen sets_of_size sets_up_to sets_of target_sets_of is_minimal base_of more less unmarked graph_with_row
lists = record { at_first = refl; with-edge = refl; at_last = refl }

walk : (s : Setup) (l : List ℕ) → WellFormed s → order < s.count → base_of false s s.graph order ≡ l → Walk s order 0 l
walk s l w k e = (whole-walk s order w k l).from (subst (Base false s s.graph order) e (own-base false s order w))

-- ---- after {token}, which has left the list

base-gone : Base false gone gone.graph order (2 ∷ 5 ∷ [])
base-gone = subst (Base false gone gone.graph order) lists.at_last (own-base false gone order gone-well)

four-before-five : Before 4 5
unfolding Before ones ones_in
four-before-five = inl (omega arith)

not-four-before-two : Before 4 2 → ⊥
unfolding Before ones ones_in
not-four-before-two b =
    let four : ones 4 ≡ 1 = refl in
    let two : ones 2 ≡ 1 = refl in
    ⊎_elim (λ l. omega (arith, l)) (λ p. let e = p.1 in omega (arith, e)) b

after-token : Tells gone order 4 (Shown 5)
after-token =
    fulfilled (next_call gone order 4) _ (gone-well, (omega arith, (record { each = λ v m. subst (Chosen false gone) (sym ((in_one 2 v).to m)) refl }, tt)))
    (given (next_call gone order 4) (Shown 5) next tt _ refl)
  where
    five : (y : ℕ) → Before 4 y → Listed (2 ∷ 5 ∷ []) y → 5 ≡ y
    five y b (inl e) = absurd (not-four-before-two (subst (Before 4) e b))
    five y b (inr (inl e)) = sym e
    five y b (inr (inr z)) = absurd z

    next : NextSet gone order 4 5
    next = record { is = base-gone.sound 5 (inr (inl refl)); after = four-before-five; first = λ y m b. inl (five y b (base-gone.whole y m)) }

pub walk-while-drawn : WalkWhileDrawn
walk-while-drawn =
    record {
      setup = fresh;
      reading = read-bench;
      holds = record {
        more = drawn;
        less = gone;
        first = (walk fresh (2 ∷ 5 ∷ []) well (omega arith) lists.at_first).0;
        added = (drawn, add, refl);
        second = (walk drawn (2 ∷ 4 ∷ []) drawn-well (omega arith) lists.with-edge).1.0;
        removed = (gone, remove, refl);
        third = after-token;
        last = (walk gone (2 ∷ 5 ∷ []) gone-well (omega arith) lists.at_last).1.1;
      };
    }
