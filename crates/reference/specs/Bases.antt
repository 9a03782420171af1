-- Bases, scores and marks, computed: all sets of initial (losable) vertices are tried.
use Rattle.std.specs.Prelude.{Bool, cond, not, ◌&&◌, List, [], ◌∷◌, ◌++◌, map, ℕ, zero, suc, ◌+◌, ◌-◌, ◌^◌, min, eqb, length}
use Rattle.setup.specs.declared.Graph.{Graph}
use Rattle.setup.specs.declared.Setup.{Setup}
use Rattle.setup.specs.Setup.{given, value_of, vertex_at}
use Rattle.scores.specs.Never.{never}
use Rattle.bases.specs.Score.{sum_of}
use Rattle.bases.specs.Marks.{Mark, Repeated, Shut, Loose, Right, tally}
use Rattle.reference.specs.Tests.{some, filtered, is_listed, is_member}
use Rattle.reference.specs.Closures.{derives_of}

-- ---- all sets

-- `Chosen loss s v`: is the vertex initial, or for lockout losable?
unfoldable pub is_chosen : Bool → Setup → ℕ → Bool
is_chosen loss s v = eqb (given (value_of loss (vertex_at s v))) 1

-- The sets of k vertices below n that pass the test, the smaller number first.
unfoldable pub sets_of_size : (ℕ → Bool) → ℕ → ℕ → List ℕ
sets_of_size test n zero = 0 ∷ []
sets_of_size test zero (suc k) = []
sets_of_size test (suc n) (suc k) =
    let less = sets_of_size test n (suc k) in
    let more = less ++ map (λ x. 2 ^ n + x) (sets_of_size test n k) in
    cond (test n) more less

-- The sets of at most k vertices below n that pass the test, fewer vertices first.
unfoldable pub sets_up_to : (ℕ → Bool) → ℕ → ℕ → List ℕ
sets_up_to test n zero = sets_of_size test n zero
sets_up_to test n (suc k) = sets_up_to test n k ++ sets_of_size test n (suc k)

-- All sets of initial (losable) vertices, in document 01's order.
unfoldable pub sets_of : Bool → Setup → List ℕ
sets_of loss s = sets_up_to (is_chosen loss s) s.count s.count

-- ---- the base

-- `TargetSet loss s g target`: the sets from which the target has a derivation.
unfoldable pub target_sets_of : Bool → Setup → Graph → ℕ → List ℕ
target_sets_of loss s g target = filtered (derives_of loss s.count g target) (sets_of loss s)

-- From x less any one vertex there is no derivation.
unfoldable pub is_minimal : Bool → Setup → Graph → ℕ → ℕ → Bool
is_minimal loss s g target x = not (some (λ v. is_member x v && derives_of loss s.count g target (x - 2 ^ v)) s.count)

-- `Base loss s g target`: the minimal sets among the target sets.
unfoldable pub base_of : Bool → Setup → Graph → ℕ → List ℕ
base_of loss s g target = filtered (is_minimal loss s g target) (target_sets_of loss s g target)

-- ---- the score

-- `ScoreOver loss s l`: the least sum over the sets of the list; never where there are none.
unfoldable pub least_sum : Bool → Setup → List ℕ → ℕ
least_sum loss s [] = never
least_sum loss s (x ∷ l) = min (sum_of loss s x) (least_sum loss s l)

-- `Score loss s g target`, computed: the least sum over the base.
unfoldable pub score_of : Bool → Setup → Graph → ℕ → ℕ
score_of loss s g target = least_sum loss s (base_of loss s g target)

-- ---- marks

-- `CountsAs` of a set handed in after the sets `earlier`, where the target sets and the base are these.
unfoldable pub mark_of : List ℕ → List ℕ → List ℕ → ℕ → Mark
mark_of sets base earlier x = cond (is_listed earlier x) Repeated (cond (is_listed sets x) (cond (is_listed base x) Right Loose) Shut)

-- The marks of handed-in sets, one by one, each after the sets `earlier` and those before it.
unfoldable pub marks_from : List ℕ → List ℕ → List ℕ → List ℕ → List Mark
marks_from sets base earlier [] = []
marks_from sets base earlier (x ∷ handed) = mark_of sets base earlier x ∷ marks_from sets base (x ∷ earlier) handed

-- How often each mark is given, and how many sets of the base are missing: right, repeated, shut, loose, missing.
unfoldable pub counts_of : List ℕ → List Mark → List ℕ
counts_of base marks = tally Right marks ∷ tally Repeated marks ∷ tally Shut marks ∷ tally Loose marks ∷ (length base - tally Right marks) ∷ []

-- `Counts loss s g target handed`, computed: the five counts.
unfoldable pub marks_of : Bool → Setup → Graph → ℕ → List ℕ → List ℕ
marks_of loss s g target handed =
    let sets = target_sets_of loss s g target in
    let base = base_of loss s g target in
    counts_of base (marks_from sets base [] handed)
