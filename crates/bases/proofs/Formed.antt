-- What the bounds of a well-formed setup give: few chosen vertices, values up to the largest, and sums that hold.
-- Assumes nothing.
use mathlib.Core.Path.{◌≡◌, refl, sym, ap, subst, ◌∙◌}
use mathlib.Core.Bool.{Bool, true, false}
use mathlib.Core.List.{List, [], ◌∷◌}
use mathlib.Core.Logic.{⊎_elim}
use Prim.Native.Nat.{ℕ, suc, ◌*◌, ◌/◌, ◌≤◌, ◌<◌}
use native.Mathlib.Omega.{arith}
use lib.Count.{ones}
use lib.ListN.{length, get_or}
use Rattle.vertex_set.specs.Set.{Member}
use Rattle.vertex_set.specs.Order.{sum_below, sum_over}
use Rattle.vertex_set.proofs.Cases.{less-or}
use Rattle.vertex_set.proofs.Digits.{digit-first, digit-suc}
use Rattle.vertex_set.proofs.Sets.{member-or, not-member}
use Rattle.vertex_set.proofs.Sums.{sum_first}
use Rattle.setup.specs.Bounds.{largest, most_chosen}
use Rattle.std.specs.Prelude.{Option, None, Some}
use Rattle.setup.specs.declared.Vertex.{Vertex}
use Rattle.setup.specs.declared.Setup.{Setup}
use Rattle.setup.specs.Setup.{points, given, value_of, vertex_at, unused_vertex, total, chosen_count, ChosenSet}
use Rattle.formed.specs.WellFormed.{InRange, ValidVertex, WellFormed}
use Rattle.formed.proofs.Facts.{not-in-use}
use Rattle.scores.specs.Never.{never}
use Rattle.bases.specs.Score.{points_at, sum_of, SumsHold}

pub few : (loss : Bool) (s : Setup) (chosen : ℕ) → WellFormed s → ChosenSet loss s chosen → ones chosen ≤ 14
few false s chosen w c = let a = w.initial in let b = c.size in omega arith
few true s chosen w c = let a = w.losable in let b = c.size in omega arith

in-range : (x : Option ℕ) → InRange x → points x ≤ largest
in-range None h = omega arith
in-range (Some n) h = h

-- a place not in use has no value
pub blank : (loss : Bool) → points (value_of loss unused_vertex) ≡ 0
blank false = refl
blank true = refl

pub points-range : (loss : Bool) (s : Setup) → WellFormed s → (v : ℕ) → points_at loss s v ≤ largest
points-range loss s w v =
    ⊎_elim
    (λ l. in-range (value_of loss (vertex_at s v)) (range loss (w.used v l)))
    (λ l. let e = ap (λ (x : Vertex). points (value_of loss x)) (not-in-use s w v l) ∙ blank loss in omega arith)
    (less-or v s.count)
  where
    range : (b : Bool) → ValidVertex (vertex_at s v) → InRange (value_of b (vertex_at s v))
    range false h = h.start
    range true h = h.loss

-- the sum of chosen vertices, over the list of all
sum-chosen : (loss : Bool) (l : List Vertex) (x : ℕ) → ((v : ℕ) → points (value_of loss (get_or l v unused_vertex)) ≤ largest)
    → ((v : ℕ) → Member x v → given (value_of loss (get_or l v unused_vertex)) ≡ 1)
    → sum_below (λ (v : ℕ). points (value_of loss (get_or l v unused_vertex))) x (length l) ≤ total (λ (y : Vertex). given (value_of loss y)) l * largest
unfolding Member
sum-chosen loss [] x small all = omega arith
sum-chosen loss (y ∷ l) x small all =
    let ih = sum-chosen loss l (x / 2) (λ v. small (suc v)) (λ v m. all (suc v) (digit-suc x v ∙ m)) in
    let k = small 0 in
    rw (sum_first (λ (v : ℕ). points (value_of loss (get_or (y ∷ l) v unused_vertex))) (length l) x)
    (⊎_elim
    (λ m. let e = all 0 m in let d = sym (digit-first x) ∙ m in rw d (omega arith))
    (λ o. let d = sym (digit-first x) ∙ not-member x 0 o in rw d (omega arith))
    (member-or x 0))

few-largest : (sum n : ℕ) → sum ≤ n * largest → n ≤ most_chosen → (sum ≤ most_chosen * largest) × (sum < never)
few-largest sum n h k = (omega arith, omega arith)

pub sums-hold : SumsHold
unfolding sum_over chosen_count
sums-hold loss s x w all =
    few-largest (sum_of loss s x) (chosen_count loss s)
    (subst (λ (n : ℕ). sum_below (points_at loss s) x n ≤ chosen_count loss s * largest) w.shaped.places
    (sum-chosen loss s.vertices x (points-range loss s w) all))
    (most loss)
  where
    most : (b : Bool) → chosen_count b s ≤ most_chosen
    most false = w.initial
    most true = w.losable
