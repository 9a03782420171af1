-- Sets shown one after the other, each by a call with the set that was shown last: on one setup, and while the setup changes.
use Rattle.std.specs.Prelude.{◌≡◌, false, List, [], ◌∷◌, ℕ, ◌^◌, ◌≤◌, ◌<◌, length}
use Rattle.std.specs.Int.Count.{ones}
use Rattle.vertex_set.specs.Set.{Iff}
use Rattle.vertex_set.specs.Order.{Ordered}
use Rattle.setup.specs.declared.Setup.{Setup}
use Rattle.setup.specs.Setup.{ChosenSet}
use Rattle.formed.specs.WellFormed.{WellFormed}
use Rattle.bases.specs.Base.{Base}
use Rattle.questions.specs.Contract.{Outcome, gives, ends, Fulfils}
use Rattle.next_sets.specs.Answers.{Next, Shown, End, next_values, next_call}

-- A call on this setup answers with the next set, or with "no more".
abbrev pub Tells : Setup → ℕ → ℕ → Next → Type 0
Tells s target last a = Fulfils (next_call s target last) (ends (gives (next_values a)) [])

-- Calls on one setup show the sets of the list one by one, from the one after `last` on, and then tell "no more".
abbrev pub Walk : Setup → ℕ → ℕ → List ℕ → Type 0
Walk s target last [] = Tells s target last End
Walk s target last (x ∷ l) = Tells s target last (Shown x) × Walk s target x l

-- Calls show the sets of the list one by one, each on the setup of that moment.
abbrev pub Showing : ℕ → ℕ → List Setup → List ℕ → Type 0
Showing target last [] [] = Unit {0}
Showing target last [] (x ∷ l) = ⊥
Showing target last (s ∷ moments) [] = ⊥
Showing target last (s ∷ moments) (x ∷ l) = Tells s target last (Shown x) × Showing target x moments l

-- The set of the initial vertices is the same in all these setups.
abbrev pub KeepInitial : ℕ → List Setup → Type 0
KeepInitial initial [] = Unit {0}
KeepInitial initial (s ∷ moments) = ChosenSet false s initial × KeepInitial initial moments

-- ---- theorems

-- With no change in between, the sets shown from the empty set on up to "no more" are the whole access base, and the base is shown in this way.
abbrev pub WholeWalk : Type 0
WholeWalk = (s : Setup) (target : ℕ) → WellFormed s → target < s.count → (l : List ℕ) → Iff (Walk s target 0 l) (Base false s s.graph target l)

-- Whatever changes in between, the sets shown rise in the base's order from the last set on, so that nothing is shown twice.
abbrev pub ShownRise : Type 0
ShownRise = (target last : ℕ) (moments : List Setup) (l : List ℕ) → Showing target last moments l → Ordered (last ∷ l)

-- And every walk ends: as long as the initial vertices stay the same, no more sets are shown than they have subsets.
abbrev pub ShownEnd : Type 0
ShownEnd = (target last initial : ℕ) (moments : List Setup) (l : List ℕ) → KeepInitial initial moments → Showing target last moments l → length l ≤ 2 ^ ones initial

-- The answer depends on count, vertices and graph alone, not on recovery marks, nor on what is held and opened.
abbrev pub DrawingAlone : Type 0
DrawingAlone = (s t : Setup) (target last : ℕ) (o : Outcome) → WellFormed s → WellFormed t
    → s.count ≡ t.count → s.vertices ≡ t.vertices → s.graph ≡ t.graph → Fulfils (next_call s target last) o → Fulfils (next_call t target last) o
