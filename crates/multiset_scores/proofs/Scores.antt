-- From the lowest of a base's sets to the score; multisets of points that agree; what is written.
-- Assumes nothing.
use mathlib.Core.Path.{◌≡◌, refl, sym, ap, subst, ◌∙◌}
use mathlib.Core.Bool.{false, cond}
use mathlib.Core.List.{List, [], ◌∷◌, ◌++◌, map}
use mathlib.Core.Logic.{inl, inr, ⊎_elim}
use Prim.Native.Nat.{ℕ, zero, suc, ◌*◌, ◌/◌, ◌%◌, ◌^◌, ◌≤◌, ◌<◌}
use native.Mathlib.Omega.{arith}
use lib.Count.{ones}
use lib.Dec.{eqb}
use lib.ListN.{length, get_or, length-append}
use Rattle.vertex_set.specs.Set.{Within}
use Rattle.vertex_set.specs.Order.{Listed}
use Rattle.vertex_set.proofs.Places.{ones-within}
use Rattle.vertex_set.proofs.Sets.{within-le}
use Rattle.vertex_set.proofs.Sorted.{sorted-ordered, before-one-way, map_same}
use Rattle.setup.specs.declared.Setup.{Setup}
use Rattle.setup.specs.Setup.{ChosenSet}
use Rattle.bases.specs.Base.{Base}
use Rattle.bases.specs.Inner.Readers.{Values}
use Rattle.bases.specs.Score.{points_at}
use Rattle.multisets.specs.Multisets.{Pairing, SameMultiset, values_below, values_over, places_of}
use Rattle.multisets.proofs.Meaning.{antisymmetric, same-pairing, same-turned, fourteen-places}
use Rattle.multisets.proofs.Sets.{length_over}
use Rattle.multiset_fronts.specs.Inner.{Front}
use Rattle.multiset_rows.specs.Inner.{rows_of}
use Rattle.multiset_scores.specs.Scores.{multiset_of, FirstInScore, MultisetScore, all_places, all_lengths}
use Rattle.multiset_scores.specs.Inner.{ValuesLe, MultisetLe}

-- ---- values that agree

values_agree : (value other : ℕ → ℕ) (x n : ℕ) → ((v : ℕ) → value v ≡ other v) → values_below value x n ≡ values_below other x n
values_agree value other x zero h = refl
values_agree value other x (suc n) h =
    ap (λ (l : List ℕ). cond (eqb (x / 2 ^ n % 2) 1) (value n ∷ l) l) (values_agree value other x n h)
    ∙ ap (λ (z : ℕ). cond (eqb (x / 2 ^ n % 2) 1) (z ∷ values_below other x n) (values_below other x n)) (h n)

pub over_agree : (value other : ℕ → ℕ) (x : ℕ) → ((v : ℕ) → value v ≡ other v) → values_over value x ≡ values_over other x
unfolding values_over
over_agree value other x h = values_agree value other x 64 h

pub points-agree : (s : Setup) (points : List ℕ) → Values false s points → (x : ℕ) → values_over (λ (v : ℕ). get_or points v 0) x ≡ multiset_of s x
points-agree s points p x = over_agree (λ (v : ℕ). get_or points v 0) (points_at false s) x p.each

values-pairing : (s : Setup) (points : List ℕ) → Values false s points → (x y : ℕ) → ValuesLe points x y → Pairing (multiset_of s x) (multiset_of s y)
values-pairing s points p x y h =
    subst (λ (m : List ℕ). Pairing m (multiset_of s y)) (points-agree s points p x)
    (subst (Pairing (values_over (λ (v : ℕ). get_or points v 0) x)) (points-agree s points p y) h)

pairing-values : (s : Setup) (points : List ℕ) → Values false s points → (x y : ℕ) → Pairing (multiset_of s x) (multiset_of s y) → ValuesLe points x y
pairing-values s points p x y h =
    subst (λ (m : List ℕ). Pairing m (values_over (λ (v : ℕ). get_or points v 0) y)) (sym (points-agree s points p x))
    (subst (Pairing (multiset_of s x)) (sym (points-agree s points p y)) h)

pub front-points : (s : Setup) (points : List ℕ) → Values false s points → (l acc : List ℕ) → Front (ValuesLe points) l acc → Front (MultisetLe s) l acc
front-points s points p l acc f =
    record {
      of = f.of;
      least = λ x y i j h. ⊎_elim (λ e. inl e) (λ k. inr (k.0, values-pairing s points p x y k.1)) (f.least x y i j (pairing-values s points p y x h));
      cover = λ y j. let c = f.cover y j in (c.0, c.1, values-pairing s points p c.0 y c.2);
      ordered = f.ordered;
    }

-- ---- the lowest sets of the base are the first ones of the score

module _ (s : Setup) (target : ℕ) (l acc : List ℕ) (b : Base false s s.graph target l) (f : Front (MultisetLe s) l acc) where
  first_of : (x : ℕ) → Listed acc x → FirstInScore s target x
  first_of x i =
      record {
        score = record {
          is = b.sound x (f.of x i);
          least = λ y m h. ⊎_elim
              (λ e. subst (λ (z : ℕ). SameMultiset (multiset_of s z) (multiset_of s x)) e (record { each = λ t. refl }))
              (λ k. antisymmetric (multiset_of s y) (multiset_of s x) h k.1)
              (f.least x y i (b.whole y m) h);
        };
        first = λ y m h. ⊎_elim (λ e. inl e) (λ k. inr k.0)
            (f.least x y i (b.whole y m) (same-pairing (multiset_of s y) (multiset_of s x) h));
      }

  of-first : (x : ℕ) → FirstInScore s target x → Listed acc x
  of-first x h =
      let c = f.cover x (b.whole x h.score.is) in
      let m = b.sound c.0 (f.of c.0 c.1) in
      let same = h.score.least c.0 m c.2 in
      let back = same-pairing (multiset_of s x) (multiset_of s c.0) (same-turned (multiset_of s c.0) (multiset_of s x) same) in
      ⊎_elim (λ e. subst (Listed acc) (sym e) c.1)
      (λ k. ⊎_elim (λ e. subst (Listed acc) e c.1) (λ j. absurd (before-one-way x c.0 k j.0))
      (f.least c.0 x c.1 (b.whole x h.score.is) back))
      (h.first c.0 m same)

  pub score-of-front : MultisetScore s target acc
  score-of-front = record { sound = first_of; whole = of-first; ordered = sorted-ordered acc f.ordered }

  -- the sets have few vertices
  pub few-of-front : (initial : ℕ) → ChosenSet false s initial → initial < 2 ^ 64 → ones initial ≤ 14 → (x : ℕ) → Listed acc x → (x < 2 ^ 64) × (ones x ≤ 14)
  few-of-front initial ch word few x i =
      let m = b.sound x (f.of x i) in
      let w : Within x initial = record { each = λ v k. (ch.each v).from (m.is.chosen v k) } in
      (let a = within-le x initial w in omega arith, let o = ones-within x initial w in omega arith)

-- ---- what is written

pub rows-places : (s : Setup) (points : List ℕ) → Values false s points → (l : List ℕ) → rows_of (λ (v : ℕ). get_or points v 0) l ≡ all_places s l
rows-places s points p [] = refl
rows-places s points p (x ∷ l) =
    ap (λ (m : List ℕ). places_of m ++ rows_of (λ (v : ℕ). get_or points v 0) l) (points-agree s points p x)
    ∙ ap (λ (r : List ℕ). places_of (multiset_of s x) ++ r) (rows-places s points p l)

-- 14 places each
pub places-long : (s : Setup) (l : List ℕ) → ((x : ℕ) → Listed l x → length (multiset_of s x) ≤ 14) → length (all_places s l) ≡ 14 * length l
places-long s [] h = refl
places-long s (x ∷ l) h =
    let a = length-append (places_of (multiset_of s x)) (all_places s l) in
    let b = fourteen-places (multiset_of s x) (h x (inl refl)) in
    let r = places-long s l (λ y i. h y (inr i)) in
    omega arith

pub ones-lengths : (s : Setup) (l : List ℕ) → ((x : ℕ) → Listed l x → x < 2 ^ 64) → map ones l ≡ all_lengths s l
ones-lengths s l h = map_same ones (λ (x : ℕ). length (multiset_of s x)) l (λ x m. sym (length_over (points_at false s) x (h x m)))
