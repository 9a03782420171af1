-- The loop that drops sets, and the set that is taken in.
-- Assumes nothing.
use mathlib.Core.Path.{◌≡◌, refl, sym, ap, subst, ◌∙◌}
use mathlib.Core.Bool.{Bool, true, false, not, ◌&&◌}
use mathlib.Core.List.{List, [], ◌∷◌, ◌++◌}
use mathlib.Core.Logic.{inl, inr, ⊎_elim}
use Prim.Native.Nat.{ℕ, ◌+◌, ◌≤◌, ◌<◌}
use native.Mathlib.Omega.{arith}
use lib.ListN.{length, get_or, take, set, length-set}
use lib.Seq.{get_or-set_same, get_or-set_other, take-set-le}
use Rattle.vertex_set.proofs.Cases.{same_or, false-true}
use Rattle.vertex_set.proofs.Sorted.{only}
use Rattle.multiset_fronts.specs.Inner.{both_le, SomeBelow, Keyed, not_above, Dropped, SetTakenIn}
use Rattle.multiset_fronts.proofs.Lists.{listed-take, take-place, take_more, take-stored, only-more, only_same}

-- ---- pairs of keys

pub both_yes : (p q r s : Bool) → r ≡ p → r ≡ true → s ≡ q → s ≡ p && q
both_yes p q r s e t f = f ∙ ap (λ (z : Bool). z && q) (sym t ∙ e)

pub both-no : (p q r : Bool) → r ≡ p → r ≡ false → false ≡ p && q
both-no p q r e t = ap (λ (z : Bool). z && q) (sym t ∙ e)

-- none of the first i is below, and the next is not
pub none_below : (low high : List ℕ) (a b i : ℕ) → ((j : ℕ) → j < i → both_le (get_or low j 0) (get_or high j 0) a b ≡ true → ⊥) → (r : Bool)
    → r ≡ both_le (get_or low i 0) (get_or high i 0) a b → r ≡ false → (j : ℕ) → j < i + 1 → both_le (get_or low j 0) (get_or high j 0) a b ≡ true → ⊥
none_below low high a b i none r e f j l t =
    ⊎_elim (λ q. false-true (sym f ∙ (e ∙ subst (λ (z : ℕ). both_le (get_or low z 0) (get_or high z 0) a b ≡ true) q t))) (λ d. none j (omega (arith, d)) t) (same_or j i)

-- ---- the loop that drops

-- The places from i on are as they were; before them stand, at the first `left` places, those of the first i sets that stay.
pub record Dropping (kept₀ low₀ high₀ : List ℕ) (n a b : ℕ) (kept low high : List ℕ) (i left : ℕ) : Type 0 where
  pub most : left ≤ i
  pub inside : i ≤ n
  pub long : length kept ≡ length kept₀
  pub long-low : length low ≡ length low₀
  pub long-high : length high ≡ length high₀
  pub rest : (j : ℕ) → i ≤ j → get_or kept j 0 ≡ get_or kept₀ j 0
  pub rest-low : (j : ℕ) → i ≤ j → get_or low j 0 ≡ get_or low₀ j 0
  pub rest-high : (j : ℕ) → i ≤ j → get_or high j 0 ≡ get_or high₀ j 0
  pub part : (f g : ℕ → ℕ) → Keyed f g kept₀ low₀ high₀ n → take left kept ≡ only (not_above f g a b) (take i kept₀)
  pub keyed : (f g : ℕ → ℕ) → Keyed f g kept₀ low₀ high₀ n → Keyed f g kept low high left

pub dropping-none : (kept low high : List ℕ) (n a b : ℕ) → Dropping kept low high n a b kept low high 0 0
dropping-none kept low high n a b =
    record {
      most = omega arith;
      inside = omega arith;
      long = refl;
      long-low = refl;
      long-high = refl;
      rest = λ j l. refl;
      rest-low = λ j l. refl;
      rest-high = λ j l. refl;
      part = λ f g k. refl;
      keyed = λ f g k. record { is_low = λ i l. absurd (omega arith); is_high = λ i l. absurd (omega arith) };
    }

-- a store before place j leaves what stands there
rest-stored : (l l₀ : List ℕ) (i left x j : ℕ) → left ≤ i → ((j : ℕ) → i ≤ j → get_or l j 0 ≡ get_or l₀ j 0) → i + 1 ≤ j → get_or (set l left x) j 0 ≡ get_or l₀ j 0
rest-stored l l₀ i left x j m r h = get_or-set_other l left j x 0 (λ e. omega arith) ∙ r j (omega arith)

module _ (kept₀ low₀ high₀ : List ℕ) (n a b : ℕ) (kept low high : List ℕ) (i left : ℕ) (p : Dropping kept₀ low₀ high₀ n a b kept low high i left) (l : i < n)
    (room : n ≤ length kept₀) (room-low : n ≤ length low₀) (room-high : n ≤ length high₀) where
  -- the test of the code is that of the set
  test : (f g : ℕ → ℕ) → Keyed f g kept₀ low₀ high₀ n → both_le a b (get_or low i 0) (get_or high i 0) ≡ both_le a b (f (get_or kept₀ i 0)) (g (get_or kept₀ i 0))
  test f g k =
      ap (λ (z : ℕ). both_le a b z (get_or high i 0)) (p.rest-low i (omega arith) ∙ k.is_low i l)
      ∙ ap (λ (z : ℕ). both_le a b (f (get_or kept₀ i 0)) z) (p.rest-high i (omega arith) ∙ k.is_high i l)

  -- the set of place i moves to the place `left`, and its keys with it
  moved : (q : List ℕ) (h : ℕ → ℕ) → left < length q → left < length kept
      → ((j : ℕ) → j < left → get_or q j 0 ≡ h (get_or kept j 0)) → get_or q i 0 ≡ h (get_or kept i 0)
      → (j : ℕ) → j < left + 1 → get_or (set q left (get_or q i 0)) j 0 ≡ h (get_or (set kept left (get_or kept i 0)) j 0)
  moved q h lq lk old e j m =
      ⊎_elim
      (λ s. subst (λ (z : ℕ). get_or (set q left (get_or q i 0)) z 0 ≡ h (get_or (set kept left (get_or kept i 0)) z 0)) (sym s)
      (get_or-set_same q left (get_or q i 0) 0 lq ∙ (e ∙ ap h (sym (get_or-set_same kept left (get_or kept i 0) 0 lk)))))
      (λ d. get_or-set_other q left j (get_or q i 0) 0 d ∙ (old j (omega (arith, d)) ∙ ap h (sym (get_or-set_other kept left j (get_or kept i 0) 0 d))))
      (same_or j left)

  keyed-more : (f g : ℕ → ℕ) → Keyed f g kept₀ low₀ high₀ n
      → Keyed f g (set kept left (get_or kept i 0)) (set low left (get_or low i 0)) (set high left (get_or high i 0)) (left + 1)
  keyed-more f g k =
      let m = p.most in
      let lk : left < length kept = omega (arith, p.long) in
      let r = p.rest i (omega arith) in
      record {
        is_low = moved low f (omega (arith, p.long-low)) lk (p.keyed f g k).is_low (p.rest-low i (omega arith) ∙ (k.is_low i l ∙ ap f (sym r)));
        is_high = moved high g (omega (arith, p.long-high)) lk (p.keyed f g k).is_high (p.rest-high i (omega arith) ∙ (k.is_high i l ∙ ap g (sym r)));
      }

  pub dropping-more : both_le a b (get_or low i 0) (get_or high i 0) ≡ false
      → Dropping kept₀ low₀ high₀ n a b (set kept left (get_or kept i 0)) (set low left (get_or low i 0)) (set high left (get_or high i 0)) (i + 1) (left + 1)
  dropping-more t =
      let m = p.most in
      record {
        most = omega arith;
        inside = omega arith;
        long = length-set kept left (get_or kept i 0) ∙ p.long;
        long-low = length-set low left (get_or low i 0) ∙ p.long-low;
        long-high = length-set high left (get_or high i 0) ∙ p.long-high;
        rest = λ j h. rest-stored kept kept₀ i left (get_or kept i 0) j m p.rest h;
        rest-low = λ j h. rest-stored low low₀ i left (get_or low i 0) j m p.rest-low h;
        rest-high = λ j h. rest-stored high high₀ i left (get_or high i 0) j m p.rest-high h;
        part = λ f g k.
            take-stored kept left (get_or kept i 0) (omega (arith, p.long))
            ∙ (ap (λ (q : List ℕ). q ++ (get_or kept i 0 ∷ [])) (p.part f g k)
            ∙ (ap (λ (z : ℕ). only (not_above f g a b) (take i kept₀) ++ (z ∷ [])) (p.rest i (omega arith))
            ∙ (sym (only-more (not_above f g a b) (take i kept₀) (get_or kept₀ i 0) (ap not (sym (test f g k) ∙ t)))
            ∙ ap (only (not_above f g a b)) (sym (take_more kept₀ i (omega arith))))));
        keyed = λ f g k. keyed-more f g k;
      }

  pub dropping-same : both_le a b (get_or low i 0) (get_or high i 0) ≡ true
      → Dropping kept₀ low₀ high₀ n a b (set kept left (get_or kept i 0)) (set low left (get_or low i 0)) (set high left (get_or high i 0)) (i + 1) left
  dropping-same t =
      let m = p.most in
      record {
        most = omega arith;
        inside = omega arith;
        long = length-set kept left (get_or kept i 0) ∙ p.long;
        long-low = length-set low left (get_or low i 0) ∙ p.long-low;
        long-high = length-set high left (get_or high i 0) ∙ p.long-high;
        rest = λ j h. rest-stored kept kept₀ i left (get_or kept i 0) j m p.rest h;
        rest-low = λ j h. rest-stored low low₀ i left (get_or low i 0) j m p.rest-low h;
        rest-high = λ j h. rest-stored high high₀ i left (get_or high i 0) j m p.rest-high h;
        part = λ f g k.
            take-set-le left kept left (get_or kept i 0) (omega arith)
            ∙ (p.part f g k
            ∙ (sym (only_same (not_above f g a b) (take i kept₀) (get_or kept₀ i 0) (ap not (sym (test f g k) ∙ t)))
            ∙ ap (only (not_above f g a b)) (sym (take_more kept₀ i (omega arith)))));
        keyed = λ f g k. let q = keyed-more f g k in record { is_low = λ j h. q.is_low j (omega arith); is_high = λ j h. q.is_high j (omega arith) };
      }

pub dropping-all : (kept₀ low₀ high₀ : List ℕ) (n a b : ℕ) (kept low high : List ℕ) (i left : ℕ) → i ≡ n → Dropping kept₀ low₀ high₀ n a b kept low high i left
    → Dropped kept₀ low₀ high₀ kept low high n a b left
dropping-all kept₀ low₀ high₀ n a b kept low high i left e p =
    record {
      most = let m = p.most in omega arith;
      left = λ f g k. p.part f g k ∙ ap (λ (j : ℕ). only (not_above f g a b) (take j kept₀)) e;
      keyed = p.keyed;
      rest = λ j h. p.rest j (omega arith);
    }

-- ---- a set is taken in

module _ (kept low high : List ℕ) (n x a b : ℕ) (room : n ≤ length kept) where
  -- some kept one is at most x
  pub taken-same : SomeBelow low high n a b → SetTakenIn kept low high kept low high n x a b n
  taken-same s =
      record {
        most = omega arith;
        either = λ f g k e d. inl (
          get_or kept s.place 0,
          listed-take kept n s.place s.inside (let i = s.inside in omega arith),
          ap (λ (z : ℕ). both_le z (g (get_or kept s.place 0)) a b) (sym (k.is_low s.place s.inside))
              ∙ (ap (λ (z : ℕ). both_le (get_or low s.place 0) z a b) (sym (k.is_high s.place s.inside)) ∙ s.is),
          refl,
        );
        keyed = λ f g k e d. k;
        rest = λ j h. refl;
      }

  -- none is
  pub taken_more : (SomeBelow low high n a b → ⊥) → (kept' low' high' : List ℕ) (r : ℕ) → Dropped kept low high kept' low' high' n a b r
      → r < length kept' → r < length low' → r < length high' → SetTakenIn kept low high (set kept' r x) (set low' r a) (set high' r b) n x a b (r + 1)
  taken_more none kept' low' high' r d lk ll lh =
      record {
        most = let m = d.most in omega arith;
        either = λ f g k e h. inr (
          (λ y m t.
              let q = take-place kept n y m in
              none (record {
                place = q.0;
                inside = q.1;
                is = ap (λ (z : ℕ). both_le z (get_or high q.0 0) a b) (k.is_low q.0 q.1)
                    ∙ (ap (λ (z : ℕ). both_le (f (get_or kept q.0 0)) z a b) (k.is_high q.0 q.1)
                    ∙ subst (λ (z : ℕ). both_le (f z) (g z) a b ≡ true) q.3 t);
              })),
          take-stored kept' r x lk ∙ ap (λ (q : List ℕ). q ++ (x ∷ [])) (d.left f g k),
        );
        keyed = λ f g k e h.
            let o = d.keyed f g k in
            record { is_low = stored low' f a ll o.is_low (sym e); is_high = stored high' g b lh o.is_high (sym h) };
        rest = λ j h. let m = d.most in get_or-set_other kept' r j x 0 (λ e. omega arith) ∙ d.rest j (omega arith);
      }
    where
      stored : (q : List ℕ) (h : ℕ → ℕ) (c : ℕ) → r < length q → ((j : ℕ) → j < r → get_or q j 0 ≡ h (get_or kept' j 0)) → c ≡ h x
          → (j : ℕ) → j < r + 1 → get_or (set q r c) j 0 ≡ h (get_or (set kept' r x) j 0)
      stored q h c lq old e j m =
          ⊎_elim
          (λ s. subst (λ (z : ℕ). get_or (set q r c) z 0 ≡ h (get_or (set kept' r x) z 0)) (sym s)
          (get_or-set_same q r c 0 lq ∙ (e ∙ ap h (sym (get_or-set_same kept' r x 0 lk)))))
          (λ s. get_or-set_other q r j c 0 s ∙ (old j (omega (arith, s)) ∙ ap h (sym (get_or-set_other kept' r j x 0 s))))
          (same_or j r)
