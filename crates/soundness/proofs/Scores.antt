-- Theorem 3 is an instance of theorem 2. Theorem 4 follows from the lowest sets of the base, theorem 5 from the crate that defines kinds.
-- Assumes nothing.
use mathlib.Core.Path.{◌≡◌, refl, subst}
use mathlib.Core.Bool.{false}
use mathlib.Core.List.{List, [], ◌∷◌, map}
use mathlib.Core.Logic.{inl, inr, ⊎_elim}
use Prim.Native.Nat.{ℕ, ◌≤◌, ◌<◌}
use native.Mathlib.Nat.{le_trans}
use native.Mathlib.Omega.{arith}
use Rattle.vertex_set.specs.Order.{Listed}
use Rattle.vertex_set.proofs.Cases.{less-or}
use Rattle.vertex_set.proofs.Lists.{exactly-unique}
use Rattle.vertex_set.proofs.Sums.{sum-over-within}
use Rattle.scores.specs.Never.{never}
use Rattle.setup.specs.declared.Setup.{Setup}
use Rattle.bases.specs.Base.{MinimalSet}
use Rattle.bases.specs.Score.{points_at, sum_of, LeastOver}
use Rattle.bases.proofs.Scores.{score-base}
use Rattle.multisets.specs.Multisets.{Pairing}
use Rattle.multisets.proofs.Meaning.{transitive}
use Rattle.multisets.proofs.Sets.{values-within}
use Rattle.multiset_scores.specs.Scores.{multiset_of, FirstInScore, MultisetScore}
use Rattle.multiset_scores.proofs.Scores.{score-of-front}
use Rattle.multiset_scores.proofs.Computed.{lowest_of, lowest-front, front-none}
use Rattle.attackers.proofs.Scores as kinds-of
use Rattle.soundness.specs.Schemes.{Among}
use Rattle.soundness.specs.Scores.{least_value, sum_then_least, ScoreIsLeast, SumMeetsBoth, SumThenLeastSound, ScoresSound, MultisetsSound, AttackersSound}
use Rattle.soundness.proofs.Secure.{minimal-within, target-sets-compared}
use Rattle.soundness.proofs.Bases.{one-base}
use Rattle.soundness.proofs.Schemes.{among-map, among_of, conditions-suffice}

-- ---- the least of a list

least-never : (l : List ℕ) → least_value l ≤ never
least-never [] = omega arith
least-never (x ∷ l) = let h = least-never l in omega arith

least-each : (l : List ℕ) (x : ℕ) → Among l x → least_value l ≤ x
least-each [] x m = absurd m
least-each (y ∷ l) x (inl e) = omega arith
least-each (y ∷ l) x (inr m) = let h = least-each l x m in omega arith

-- what is at most never and at most each of the list is at most the least
least_above : (l : List ℕ) (r : ℕ) → r ≤ never → ((x : ℕ) → Among l x → r ≤ x) → r ≤ least_value l
least_above [] r n h = n
least_above (y ∷ l) r n h = let a = h y (inl refl) in let b = least_above l r n (λ x m. h x (inr m)) in omega arith

pub sum-meets-both : SumMeetsBoth
sum-meets-both loss s = (
  record { each = λ x y cx cy w. sum-over-within (points_at loss s) x y w },
  record { each = λ S T h. least_above T (least_value S) (least-never S) (λ t m. let u = h t m in le_trans (least-each S u.0 u.1) u.2) },
)

-- ---- theorem 3

-- the least over a list of sets, once it is told by its four clauses
least-over-list : (sum : ℕ → ℕ) (l : List ℕ) (r : ℕ) → LeastOver (Listed l) sum r → r ≡ least_value (map sum l)
least-over-list sum l r h = same (least_above (map sum l) r top (λ d m. low d (among_of sum l d m))) (⊎_elim small large (less-or r never))
  where
    top : r ≤ never
    top = ⊎_elim (λ k. omega arith) (λ k. let e = h.none (λ x m. let z = h.some x m in omega arith) in omega arith) (less-or r never)

    low : (d : ℕ) → (x : ℕ) × Listed l x × (d ≡ sum x) → r ≤ d
    low d y = let a = h.least y.0 y.1 in let e = y.2 in omega arith

    small : r < never → least_value (map sum l) ≤ r
    small k = let y = h.reached k in let a = least-each (map sum l) (sum y.0) (among-map sum l y.0 y.1) in let e = y.2 in omega arith

    large : never ≤ r → least_value (map sum l) ≤ r
    large k = let a = least-never (map sum l) in omega arith

    same : r ≤ least_value (map sum l) → least_value (map sum l) ≤ r → r ≡ least_value (map sum l)
    same a b = omega arith

pub score-is-least : ScoreIsLeast
score-is-least loss s g target r l b q = least-over-list (sum_of loss s) l r ((score-base loss s g target r l b (minimal-within loss s g target)).to q)

pub sum-then-least-sound : SumThenLeastSound
sum-then-least-sound loss s g = let both = sum-meets-both loss s in conditions-suffice (sum_then_least loss s) loss s g both.0 both.1

pub scores-sound : ScoresSound
scores-sound loss s g a b p q sp sq h =
    let base_a = one-base loss s g a in
    let base_b = one-base loss s g b in
    let e = score-is-least loss s g a p base_a.0 base_a.1 sp in
    let f = score-is-least loss s g b q base_b.0 base_b.1 sq in
    let m = (sum-then-least-sound loss s g).each a b base_a.0 base_b.0 base_a.1 base_b.1 h in
    omega arith

-- ---- theorem 4

-- for each set of the base the score has one whose multiset is at most that of the set
bag-below : (s : Setup) (target : ℕ) (l : List ℕ) → MultisetScore s target l → (y : ℕ) → MinimalSet false s s.graph target y
    → (x : ℕ) × Listed l x × Pairing (multiset_of s x) (multiset_of s y)
bag-below s target l h y m =
    let b = one-base false s s.graph target in
    let f = lowest-front s b.0 [] [] (front-none s) b.1.ordered in
    let e = exactly-unique (FirstInScore s target) (lowest_of s [] b.0) l (score-of-front s target b.0 (lowest_of s [] b.0) b.1 f) h in
    let c = f.cover y (b.1.whole y m) in
    (c.0, subst (λ (k : List ℕ). Listed k c.0) e c.1, c.2)

pub multisets-sound : MultisetsSound
multisets-sound s a b l k p q h y j =
    let t = (q.sound y j).score.is.is in
    let z = minimal-within false s s.graph a y (record { chosen = t.chosen; derives = h.each y t.chosen t.derives }) in
    let c = bag-below s a l p z.0 z.2 in
    (c.0, c.1, transitive (multiset_of s c.0) (multiset_of s z.0) (multiset_of s y) c.2 (values-within (points_at false s) z.0 y z.1))

-- ---- theorem 5

-- It was proved where the score is: for each kind of b's score one of a's that is at most it. Its hypothesis is definition 9.
pub attackers-sound : AttackersSound
attackers-sound s kinds a b p q w fit hp hq h = kinds-of.sound s kinds a b p q w fit hp hq ((target-sets-compared false s s.graph a b).from h)
