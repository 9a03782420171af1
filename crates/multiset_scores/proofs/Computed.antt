-- The score as a function that the checker can run: of the access base's sets, gone through in order, the lowest.
-- Assumes nothing.
use mathlib.Core.Path.{◌≡◌, refl, sym, subst}
use mathlib.Core.Bool.{Bool, true, false, cond, not, ◌&&◌}
use mathlib.Core.List.{List, [], ◌∷◌, ◌++◌, append_assoc, append-nil}
use mathlib.Core.Logic.{◌⊎◌, inl, inr, ⊎_elim}
use Prim.Native.Nat.{ℕ, ◌≤◌}
use lib.Dec.{leb}
use Rattle.vertex_set.specs.Set.{Iff, Decides}
use Rattle.vertex_set.specs.Order.{Listed, Before, Ordered}
use Rattle.vertex_set.proofs.Cases.{by_test, false-true}
use Rattle.vertex_set.proofs.Decisions.{decide-yes, decide_iff, decide-leb, decide-and}
use Rattle.vertex_set.proofs.Sorted.{listed-append, only}
use Rattle.setup.specs.declared.Setup.{Setup}
use Rattle.formed.specs.WellFormed.{WellFormed}
use Rattle.reference.specs.Bases.{base_of}
use Rattle.reference.proofs.Bases.{own-base}
use Rattle.multisets.specs.Multisets.{Pairing}
use Rattle.multisets.specs.Meaning.{at_least}
use Rattle.multisets.proofs.Meaning.{reflexive, transitive, fewer-at}
use Rattle.multisets.proofs.Pairs.{fewer-pairing, pairing-fewer}
use Rattle.multiset_fronts.specs.Inner.{Front}
use Rattle.multiset_fronts.proofs.Front.{front_same, front-more}
use Rattle.multiset_scores.specs.Scores.{multiset_of, MultisetScore}
use Rattle.multiset_scores.specs.Inner.{MultisetLe}
use Rattle.multiset_scores.proofs.Scores.{score-of-front}

-- ---- the functions

-- Has at each of the thresholds m no more values at or above it than n?
abbrev pub fewer_at : List ℕ → List ℕ → List ℕ → Bool
fewer_at [] m n = true
fewer_at (t ∷ l) m n = leb (at_least m t) (at_least n t) && fewer_at l m n

-- Is the multiset of x at most that of y?
unfoldable pub is_at_most : Setup → ℕ → ℕ → Bool
is_at_most s x y = fewer_at (multiset_of s x) (multiset_of s x) (multiset_of s y)

-- Is the multiset of some set of the list at most that of x?
unfoldable pub some_at_most : Setup → List ℕ → ℕ → Bool
some_at_most s [] x = false
some_at_most s (y ∷ l) x = let later = some_at_most s l x in cond (is_at_most s y x) true later

-- The lowest of those kept and those of the list.
unfoldable pub lowest_of : Setup → List ℕ → List ℕ → List ℕ
lowest_of s acc [] = acc
lowest_of s acc (x ∷ l) = lowest_of s (cond (some_at_most s acc x) acc (only (λ (y : ℕ). not (is_at_most s x y)) acc ++ (x ∷ []))) l

-- The sets of the target's score.
unfoldable pub score_of : Setup → ℕ → List ℕ
score_of s target = lowest_of s [] (base_of false s s.graph target)

-- ---- what they are

decide-fewer : (l m n : List ℕ) → Decides ((t : ℕ) → Listed l t → at_least m t ≤ at_least n t) (fewer_at l m n)
decide-fewer [] m n = decide-yes (λ t h. absurd h)
decide-fewer (u ∷ l) m n =
    decide_iff
    (record {
      to = λ p t. ⊎_elim (λ e. rw e p.0) (λ h. p.1 t h);
      from = λ f. (f u (inl refl), λ t h. f t (inr h));
    })
    (decide-and (leb (at_least m u) (at_least n u)) (fewer_at l m n) (decide-leb (at_least m u) (at_least n u)) (decide-fewer l m n))

pub decide-pairing : (m n : List ℕ) → Decides (Pairing m n) (fewer_at m m n)
decide-pairing m n =
    decide_iff (record { to = λ f. fewer-pairing m n (fewer-at m n f).each; from = λ p t h. pairing-fewer m n p t }) (decide-fewer m m n)

decide-at-most : (s : Setup) (x y : ℕ) → Decides (MultisetLe s x y) (is_at_most s x y)
unfolding is_at_most
decide-at-most s x y = decide-pairing (multiset_of s x) (multiset_of s y)

some-at-most : (s : Setup) (l : List ℕ) (x : ℕ) → some_at_most s l x ≡ true → (y : ℕ) × Listed l y × MultisetLe s y x
unfolding some_at_most
some-at-most s [] x e = absurd (false-true e)
some-at-most s (y ∷ l) x e =
    by_test (is_at_most s y x) (λ t. (y, inl refl, (decide-at-most s y x).yes t))
    (λ t. let r = some-at-most s l x (rw t at e) in (r.0, inr r.1, r.2))

none-at-most : (s : Setup) (l : List ℕ) (x : ℕ) → some_at_most s l x ≡ false → (y : ℕ) → Listed l y → MultisetLe s y x → ⊥
unfolding some_at_most
none-at-most s [] x e y h p = h
none-at-most s (z ∷ l) x e y h p =
    by_test (is_at_most s z x) (λ t. false-true (sym (rw t at e)))
    (λ t. ⊎_elim (λ q. (decide-at-most s z x).no t (subst (λ (w : ℕ). MultisetLe s w x) q p)) (λ i. none-at-most s l x (rw t at e) y i p) h)

not_iff : (P : Type 0) (r : Bool) → Decides P r → Iff (not r ≡ true) (P → ⊥)
not_iff P true d = record { to = λ e p. false-true e; from = λ n. absurd (n (d.yes refl)) }
not_iff P false d = record { to = λ e. d.no refl; from = λ n. refl }

or-of : (P : Type 0) (r : Bool) → Decides P r → P ⊎ (P → ⊥)
or-of P true d = inl (d.yes refl)
or-of P false d = inr (d.no refl)

-- what is listed before the first of the rest comes before it
before-rest : (p : List ℕ) (x : ℕ) (l : List ℕ) → Ordered (p ++ (x ∷ l)) → (y : ℕ) → Listed p y → Before y x
before-rest [] x l o y h = absurd h
before-rest (z ∷ p) x l o y (inl e) = subst (λ (w : ℕ). Before w x) (sym e) (o.0 x ((listed-append p (x ∷ l) x).from (inr (inl refl))))
before-rest (z ∷ p) x l o y (inr h) = before-rest p x l o.1 y h

module _ (s : Setup) where
  refl-le : (x : ℕ) → MultisetLe s x x
  refl-le x = reflexive (multiset_of s x)

  trans_le : (x y z : ℕ) → MultisetLe s x y → MultisetLe s y z → MultisetLe s x z
  trans_le x y z p q = transitive (multiset_of s x) (multiset_of s y) (multiset_of s z) p q

  one_more : (p acc : List ℕ) (x : ℕ) → Front (MultisetLe s) p acc → ((y : ℕ) → Listed p y → Before y x)
      → Front (MultisetLe s) (p ++ (x ∷ [])) (cond (some_at_most s acc x) acc (only (λ (y : ℕ). not (is_at_most s x y)) acc ++ (x ∷ [])))
  one_more p acc x f later =
      by_test (some_at_most s acc x)
      (λ t. let r = some-at-most s acc x t in rw t (front_same (MultisetLe s) refl-le trans_le p acc x f later r.0 r.1 r.2))
      (λ t. rw t (front-more (MultisetLe s) refl-le trans_le p acc x f later (λ (y : ℕ). not (is_at_most s x y))
      (λ y. not_iff (MultisetLe s x y) (is_at_most s x y) (decide-at-most s x y)) (λ y. or-of (MultisetLe s x y) (is_at_most s x y) (decide-at-most s x y))
      (none-at-most s acc x t)))

  pub lowest-front : (l p acc : List ℕ) → Front (MultisetLe s) p acc → Ordered (p ++ l) → Front (MultisetLe s) (p ++ l) (lowest_of s acc l)
  unfolding lowest_of
  lowest-front [] p acc f o = subst (λ (q : List ℕ). Front (MultisetLe s) q acc) (sym (append-nil p)) f
  lowest-front (x ∷ l) p acc f o =
      let e = append_assoc p (x ∷ []) l in
      subst (λ (q : List ℕ). Front (MultisetLe s) q (lowest_of s (cond (some_at_most s acc x) acc (only (λ (y : ℕ). not (is_at_most s x y)) acc ++ (x ∷ []))) l)) e
      (lowest-front l (p ++ (x ∷ [])) _ (one_more p acc x f (before-rest p x l o)) (subst Ordered (sym e) o))

  pub front-none : Front (MultisetLe s) [] []
  front-none = record { of = λ x h. h; least = λ x y h. absurd h; cover = λ y h. absurd h; ordered = tt }

  module _ (target : ℕ) (w : WellFormed s) where
    pub front_of : Front (MultisetLe s) (base_of false s s.graph target) (score_of s target)
    unfolding score_of
    front_of = lowest-front (base_of false s s.graph target) [] [] front-none (own-base false s target w).ordered

    pub score-of : MultisetScore s target (score_of s target)
    score-of = score-of-front s target (base_of false s s.graph target) (score_of s target) (own-base false s target w) front_of
