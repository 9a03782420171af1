-- The running list: by their keys, the sets kept are the lowest of all that were seen.
-- Assumes nothing.
use mathlib.Core.Path.{◌≡◌, refl, sym, ap, subst, ◌∙◌}
use mathlib.Core.Bool.{Bool, true, false, not}
use mathlib.Core.List.{List, [], ◌∷◌, ◌++◌}
use mathlib.Core.Logic.{◌⊎◌, inl, inr, ⊎_elim}
use Prim.Native.Nat.{ℕ, ◌+◌, ◌≤◌, ◌<◌}
use native.Mathlib.Omega.{arith}
use lib.ListN.{length, get_or, take}
use Rattle.vertex_set.specs.Set.{Iff}
use Rattle.vertex_set.specs.Order.{Listed, Before}
use Rattle.vertex_set.proofs.Cases.{false-true}
use Rattle.vertex_set.proofs.Sorted.{only}
use Rattle.families.specs.Inner.Family.{masks}
use Rattle.family_lists.specs.Inner.Tables.{sum_by}
use Rattle.multiset_keys.specs.Inner.{CountKey}
use Rattle.vertex_set.proofs.Decisions.{and_parts, and_both}
use Rattle.multiset_keys.proofs.Lanes.{key-refl, key-trans}
use Rattle.multiset_fronts.specs.Inner.{both_le, Keyed, not_above, SetTakenIn, KeysLe, Front, CanKeep, KeptLowest}
use Rattle.multiset_fronts.proofs.Lists.{listed-take, sorted-place, take_more}
use Rattle.multiset_fronts.proofs.Front.{front_same, front-more}

true-or : (t : Bool) → (t ≡ true) ⊎ (t ≡ true → ⊥)
true-or true = inl refl
true-or false = inr false-true

not-true : (t : Bool) → Iff (not t ≡ true) (t ≡ true → ⊥)
not-true true = record { to = λ e d. false-true e; from = λ n. absurd (n refl) }
not-true false = record { to = λ e d. false-true d; from = λ n. refl }

module _ (f g : ℕ → ℕ) where
  keys-refl : (x : ℕ) → KeysLe f g x x
  keys-refl x = and_both _ _ (key-refl (f x)) (key-refl (g x))

  keys-trans : (x y z : ℕ) → KeysLe f g x y → KeysLe f g y z → KeysLe f g x z
  keys-trans x y z p q =
      let a = and_parts _ _ p in
      let b = and_parts _ _ q in
      and_both _ _ (key-trans (f x) (f y) (f z) a.0 b.0) (key-trans (g x) (g y) (g z) a.1 b.1)

-- Of the first i masks of the list, those of the lowest sets stand with their keys at the first places, and the others from i on where they stood.
pub record Keeping (list : List ℕ) (f g : ℕ → ℕ) (i : ℕ) (kept low high : List ℕ) (count : ℕ) : Type 0 where
  pub most : count ≤ i
  pub front : Front (KeysLe f g) (take i list) (take count kept)
  pub keyed : Keyed f g kept low high count
  pub rest : (j : ℕ) → i ≤ j → get_or kept j 0 ≡ get_or list j 0

pub keeping_none : (list : List ℕ) (f g : ℕ → ℕ) (low high : List ℕ) → Keeping list f g 0 list low high 0
keeping_none list f g low high =
    record {
      most = omega arith;
      front = record { of = λ x h. h; least = λ x y h. absurd h; cover = λ y h. absurd h; ordered = tt };
      keyed = record { is_low = λ i l. absurd (omega arith); is_high = λ i l. absurd (omega arith) };
      rest = λ j h. refl;
    }

module _ (list : List ℕ) (n : ℕ) (low₁ high₁ low₂ high₂ : List ℕ) (can : CanKeep list n low₁ high₁ low₂ high₂) (i : ℕ) (kept low high : List ℕ) (count : ℕ)
    (k : Keeping list (sum_by low₁ high₁) (sum_by low₂ high₂) i kept low high count) (l : i < n) where
  inside : i < length list
  inside = let s = can.sets in omega arith

  -- the next mask
  pub next_small : get_or kept i 0 < masks
  next_small = subst (λ (z : ℕ). z < masks) (sym (k.rest i (omega arith))) (can.small (get_or list i 0) (listed-take list n i l inside))

  -- its keys are keys
  pub next_first : (a : ℕ) → a ≡ sum_by low₁ high₁ (get_or kept i 0) → CountKey a
  next_first a p = subst CountKey (sym p) (can.is_first.keys (get_or kept i 0) next_small)

  pub next_second : (b : ℕ) → b ≡ sum_by low₂ high₂ (get_or kept i 0) → CountKey b
  next_second b q = subst CountKey (sym q) (can.is_second.keys (get_or kept i 0) next_small)

  -- there is room for it
  pub keeping-room : length kept ≡ length list → (count < length kept) × (count < 3432)
  keeping-room e = let m = k.most in (omega (arith, inside), omega (arith, can.few))

  takes-in : (kept' low' high' : List ℕ) (x r : ℕ) → x ≡ get_or list i 0 → SetTakenIn kept low high kept' low' high' count x (sum_by low₁ high₁ x) (sum_by low₂ high₂ x) r
      → Keeping list (sum_by low₁ high₁) (sum_by low₂ high₂) (i + 1) kept' low' high' r
  takes-in kept' low' high' x r at t =
      record {
        most = let a = t.most in let b = k.most in omega arith;
        front = subst (λ (p : List ℕ). Front le p (take r kept')) (sym (take_more list i inside ∙ ap (λ (z : ℕ). take i list ++ (z ∷ [])) (sym at)))
            (⊎_elim same more (t.either f g k.keyed refl refl));
        keyed = t.keyed f g k.keyed refl refl;
        rest = λ j h. let m = k.most in t.rest j (omega arith) ∙ k.rest j (omega arith);
      }
    where
      f : ℕ → ℕ
      f = sum_by low₁ high₁

      g : ℕ → ℕ
      g = sum_by low₂ high₂

      le : ℕ → ℕ → Type 0
      le = KeysLe f g

      later : (y : ℕ) → Listed (take i list) y → Before y x
      later y m = subst (Before y) (sym at) (sorted-place Before list n i y can.ordered l inside m)

      same : (y : ℕ) × Listed (take count kept) y × (both_le (f y) (g y) (f x) (g x) ≡ true) × (take r kept' ≡ take count kept)
          → Front le (take i list ++ (x ∷ [])) (take r kept')
      same h =
          subst (Front le (take i list ++ (x ∷ []))) (sym h.3)
          (front_same le (keys-refl f g) (keys-trans f g) (take i list) (take count kept) x k.front later h.0 h.1 h.2)

      more : ((y : ℕ) → Listed (take count kept) y → both_le (f y) (g y) (f x) (g x) ≡ true → ⊥)
          × (take r kept' ≡ only (not_above f g (f x) (g x)) (take count kept) ++ (x ∷ []))
          → Front le (take i list ++ (x ∷ [])) (take r kept')
      more h =
          subst (Front le (take i list ++ (x ∷ []))) (sym h.1)
          (front-more le (keys-refl f g) (keys-trans f g) (take i list) (take count kept) x k.front later (not_above f g (f x) (g x))
          (λ y. not-true (both_le (f x) (g x) (f y) (g y))) (λ y. true-or (both_le (f x) (g x) (f y) (g y))) h.0)

  pub keeping-more : (kept' low' high' : List ℕ) (a b r : ℕ) → a ≡ sum_by low₁ high₁ (get_or kept i 0) → b ≡ sum_by low₂ high₂ (get_or kept i 0)
      → SetTakenIn kept low high kept' low' high' count (get_or kept i 0) a b r → Keeping list (sum_by low₁ high₁) (sum_by low₂ high₂) (i + 1) kept' low' high' r
  keeping-more kept' low' high' a b r p q t =
      takes-in kept' low' high' (get_or kept i 0) r (k.rest i (omega arith))
      (subst (λ (z : ℕ). SetTakenIn kept low high kept' low' high' count (get_or kept i 0) (sum_by low₁ high₁ (get_or kept i 0)) z r) q
      (subst (λ (z : ℕ). SetTakenIn kept low high kept' low' high' count (get_or kept i 0) z b r) p t))

pub keeping_all : (list : List ℕ) (n : ℕ) (low₁ high₁ low₂ high₂ : List ℕ) (i : ℕ) (kept low high : List ℕ) (count : ℕ) → i ≡ n
    → Keeping list (sum_by low₁ high₁) (sum_by low₂ high₂) i kept low high count → KeptLowest list n low₁ high₁ low₂ high₂ kept count
keeping_all list n low₁ high₁ low₂ high₂ i kept low high count e k =
    record {
      most = let m = k.most in omega arith;
      front = subst (λ (j : ℕ). Front (KeysLe (sum_by low₁ high₁) (sum_by low₂ high₂)) (take j list) (take count kept)) e k.front;
    }
