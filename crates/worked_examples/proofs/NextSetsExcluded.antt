-- Wrong next sets that the contract excludes, each at an example: seed, whose opening list is {seed}, {pwd_backup, device}, {pwd_manager, device}, by number 8, 5, 6.
-- Assumes nothing.
use mathlib.Core.Path.{◌≡◌, refl, sym, ap, subst}
use mathlib.Core.Bool.{false}
use mathlib.Core.List.{List, [], ◌∷◌}
use mathlib.Core.Logic.{inl, inr, ⊎_elim}
use Prim.Native.Nat.{ℕ}
use native.Mathlib.Omega.{arith}
use lib.Count.{ones, ones_in}
use lib.ListN.{get_or}
use Rattle.vertex_set.specs.Order.{Before}
use Rattle.vertex_set.proofs.Sets.{in_one}
use Rattle.setup.specs.declared.Setup.{Setup}
use Rattle.setup.specs.Setup.{Chosen}
use Rattle.formed.specs.WellFormed.{WellFormed}
use Rattle.bases.specs.Base.{Base}
use Rattle.next_sets.specs.Next.{OfInitial, NextSet}
use Rattle.questions.specs.Contract.{Outcome, refuses, ends, turns_away, Answers, Fulfils}
use Rattle.questions.specs.Questions.{asks12, asks13}
use Rattle.questions.proofs.Asks.{first-no}
use Rattle.questions.proofs.Contract.{fulfilled, given, fulfils-once}
use Rattle.next_sets.specs.Answers.{asks21, Next, Shown, End, next_values, next_call}
use Rattle.next_sets.specs.Walks.{Tells, Walk}
use Rattle.next_sets.proofs.Unique.{one-next}
use Rattle.next_sets.proofs.Walks.{told-right}
use Rattle.worked_examples.specs.Sheets.{ring, seed}
use Rattle.worked_examples.proofs.Reading.{reads-well, read-ring}
use Rattle.worked_examples.proofs.Table.{held, further-holds}
use Rattle.worked_examples.proofs.NextSets.{all-walk}

abbrev s : Setup
s = ring.setup

well : WellFormed s
well = reads-well ring read-ring

shown : Walk s seed 0 (8 ∷ 5 ∷ 6 ∷ [])
shown = held ring (λ (t : Setup). Walk t seed 0 (8 ∷ 5 ∷ 6 ∷ [])) read-ring all-walk.1.0

base : Base false s s.graph seed (8 ∷ 5 ∷ 6 ∷ [])
base = held ring (λ (t : Setup). Base false t t.graph seed (8 ∷ 5 ∷ 6 ∷ [])) read-ring further-holds.1.1.1.1.1.1.1.1.1.0

-- two answers after one set have the same values
same : (last : ℕ) (a b : Next) → Tells s seed last a → Tells s seed last b → next_values a ≡ next_values b
same last a b f g = ap (λ (o : Outcome). o.reply.values) (fulfils-once (next_call s seed last) (one-next s seed last) _ _ f g)

other-set : {x y : ℕ} → 1 ∷ x ∷ [] ≡ 1 ∷ y ∷ [] → x ≡ y
other-set e = ap (λ (l : List ℕ). get_or l 1 0) e

not-both : {x : ℕ} → 1 ∷ x ∷ [] ≡ 0 ∷ [] → ⊥
not-both e = let z : ◌≡◌ {A = ℕ} 1 0 = ap (λ (l : List ℕ). get_or l 0 0) e in omega arith

-- The order of set numbers alone: {pwd_backup, device}, 5, before {seed}, 8.
pub no-number-order : Tells s seed 0 (Shown 5) → ⊥
no-number-order c = let e = other-set (same 0 (Shown 8) (Shown 5) shown.0 c) in omega arith

-- .. and "no more" behind {seed}, since no set of the list has a larger number.
pub no-end-by-number : Tells s seed 8 End → ⊥
no-end-by-number c = not-both (same 8 (Shown 5) End shown.1.0 c)

-- At or after: the same set again.
pub no-same-again : Tells s seed 8 (Shown 8) → ⊥
no-same-again c = let e = other-set (same 8 (Shown 5) (Shown 8) shown.1.0 c) in omega arith

-- Larger sizes alone: the second set of two items is lost.
pub no-larger-sizes-alone : Tells s seed 5 End → ⊥
no-larger-sizes-alone c = not-both (same 5 (Shown 6) End shown.1.1.0 c)

-- Any set that opens seed: {pwd_backup, seed}, 9, of which {seed} is a part.
pub no-loose-set : Tells s seed 6 (Shown 9) → ⊥
no-loose-set c = not-both (same 6 (Shown 9) End c shown.1.1.1)

-- ---- a last set that is not in the list

four-before-eight : Before 4 8
unfolding Before ones ones_in
four-before-eight = inr (refl, omega arith)

device-initial : OfInitial s 4
device-initial = record { each = λ v m. subst (Chosen false s) (sym ((in_one 2 v).to m)) refl }

after-device : Tells s seed 4 (Shown 8)
after-device = fulfilled (next_call s seed 4) _ (well, (omega arith, (device-initial, tt))) (given (next_call s seed 4) (Shown 8) next tt _ refl)
  where
    next : NextSet s seed 4 8
    next =
        record {
          is = base.sound 8 (inl refl);
          after = four-before-eight;
          first = λ y m b. ⊎_elim (λ e. inl (sym e)) (λ i. inr (base.ordered.0 y i)) (base.whole y m);
        }

-- "No more" where the last set is not in the list, or has left it: {device} is in no list of seed, and {seed} comes after it.
pub no-end-outside-the-list : Tells s seed 4 End → ⊥
no-end-outside-the-list c = not-both (same 4 (Shown 8) End after-device c)

not-three-before-eight : Before 3 8 → ⊥
unfolding Before ones ones_in
not-three-before-eight b =
    let three : ones 3 ≡ 2 = refl in
    let eight : ones 8 ≡ 1 = refl in
    ⊎_elim (λ l. omega (arith, l)) (λ p. let e = p.0 in omega (arith, e)) b

-- The next by its place in the list: {pwd_backup, pwd_manager}, 3, has none there, and is not followed by the list's first set but by 5.
pub no-first-place : Tells s seed 3 (Shown 8) → ⊥
no-first-place c = not-three-before-eight (told-right s seed 3 (Shown 8) c).after

-- ---- a last set with an item that is not a starting one

beyond-stranger : OfInitial s 64 → ⊥
beyond-stranger i = let e : ◌≡◌ {A = ℕ} 0 1 = i.each 6 ((in_one 6 6).from refl) in omega arith

-- 14 for 21: the last set is that of item 6, and the setup has six items. What is not in it is no starting item either.
pub no-fourteen : Fulfils (next_call s seed 64) (ends (refuses 14) []) → ⊥
unfolding Fulfils
no-fourteen c =
    let e = first-no (turns_away []) (Answers (next_call s seed 64)) (asks12 s ∷ asks13 s seed ∷ []) (asks21 s 64) [] _ c (well, (omega arith, tt)) beyond-stranger in
    let z : ◌≡◌ {A = ℕ} 14 21 = ap (λ (o : Outcome). o.reply.number) e in
    omega arith
