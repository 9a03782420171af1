-- The laws of two lists of keys, told of a list of pairs.
-- Assumes nothing.
use mathlib.Core.Path.{◌≡◌, refl, sym, ap, subst, ◌∙◌}
use mathlib.Core.Bool.{Bool, true, false}
use mathlib.Core.List.{List, [], ◌∷◌, map}
use Prim.Native.Nat.{ℕ, zero, suc, ◌+◌, ◌≤◌, ◌<◌}
use native.Mathlib.Omega.{arith}
use lib.ListN.{length, get_or, take, set, length-map}
use lib.Seq.{get_or-take, length-take-le}
use Rattle.std.proofs.lemmas.List.{map-set, take-map}
use Rattle.multiset_keys.specs.Inner.{CountKey}
use Rattle.multiset_fronts.specs.declared.keys.Keys.{Keys}
use Rattle.multiset_fronts.specs.Inner.{both_le, SomeBelow, Dropped, SetTakenIn}
use Rattle.multiset_fronts.specs.Inner.{firsts, seconds}
use Rattle.multiset_fronts.proofs.Dropping.{Dropping, dropping-more, dropping-same, taken-same, taken_more, none_below}

-- 0 is a key, with no count in any lane
pub zero-key : CountKey 0
unfolding CountKey
zero-key = (omega arith, (omega arith, (omega arith, (omega arith, (omega arith, (omega arith, (omega arith, refl)))))))

-- ---- one key of each

module _ (f : Keys → ℕ) where
  key-at : (l : List Keys) (i : ℕ) (d : Keys) → i < length l → get_or (map f l) i 0 ≡ f (get_or l i d)
  key-at [] i d h = absurd (omega arith)
  key-at (k ∷ l) zero d h = refl
  key-at (k ∷ l) (suc i) d h = key-at l i d (omega arith)

  key-is : (l : List Keys) (i : ℕ) (item : Keys) → i < length l → item ≡ get_or l i item → get_or (map f l) i 0 ≡ f item
  key-is l i item h e = key-at l i item h ∙ ap f (sym e)

  key-moved : (l : List Keys) (left i : ℕ) (item : Keys) → i < length l → item ≡ get_or l i item → map f (set l left item) ≡ set (map f l) left (get_or (map f l) i 0)
  key-moved l left i item h e = map-set f l left item ∙ ap (set (map f l) left) (sym (key-is l i item h e))

  key-front : (l : List Keys) (n i : ℕ) → i < n → get_or (map f (take n l)) i 0 ≡ get_or (map f l) i 0
  key-front l n i h = ap (λ (q : List ℕ). get_or q i 0) (sym (take-map f n l)) ∙ get_or-take n (map f l) i 0 h

-- ---- one below the new keys

-- None of the first i is at most a, b.
pub record NoneTo (kept : List Keys) (a b i : ℕ) : Type 0 where
  pub none : (j : ℕ) → j < i → both_le (get_or (firsts kept) j 0) (get_or (seconds kept) j 0) a b ≡ true → ⊥

pub none-begun : (kept : List Keys) (a b : ℕ) → NoneTo kept a b 0
none-begun kept a b = record { none = λ j h. absurd (omega arith) }

module _ (kept : List Keys) (a b i : ℕ) (item : Keys) (h : i < length kept) (is : item ≡ get_or kept i item) (r : Bool)
    (e : r ≡ both_le item.first item.second a b) where
  test : r ≡ both_le (get_or (firsts kept) i 0) (get_or (seconds kept) i 0) a b
  test =
      e ∙ ap (λ (z : ℕ). both_le z item.second a b) (sym (key-is (λ k. k.first) kept i item h is))
      ∙ ap (λ (z : ℕ). both_le (get_or (firsts kept) i 0) z a b) (sym (key-is (λ k. k.second) kept i item h is))

  pub none-next : NoneTo kept a b i → r ≡ false → NoneTo kept a b (i + 1)
  none-next p f = record { none = none_below (firsts kept) (seconds kept) a b i p.none r test f }

  pub some-here : r ≡ true → SomeBelow (firsts kept) (seconds kept) (length kept) a b
  some-here f = record { place = i; inside = h; is = sym test ∙ f }

pub none-all : (kept : List Keys) (a b i : ℕ) → length kept ≤ i → NoneTo kept a b i → SomeBelow (firsts kept) (seconds kept) (length kept) a b → ⊥
none-all kept a b i h p s = let l = s.inside in p.none s.place (omega arith) s.is

module _ (keys : List Keys) (n a b : ℕ) (room : n ≤ length keys) where
  pub some-front : SomeBelow (firsts (take n keys)) (seconds (take n keys)) (length (take n keys)) a b → SomeBelow (firsts keys) (seconds keys) n a b
  some-front s =
      let l = length-take-le n keys room in
      let h : s.place < n = let k = s.inside in omega arith in
      record {
        place = s.place;
        inside = h;
        is = ap (λ (z : ℕ). both_le z (get_or (seconds keys) s.place 0) a b) (sym (key-front (λ k. k.first) keys n s.place h))
            ∙ (ap (λ (z : ℕ). both_le (get_or (firsts (take n keys)) s.place 0) z a b) (sym (key-front (λ k. k.second) keys n s.place h)) ∙ s.is);
      }

  pub front-some : SomeBelow (firsts keys) (seconds keys) n a b → SomeBelow (firsts (take n keys)) (seconds (take n keys)) (length (take n keys)) a b
  front-some s =
      let l = length-take-le n keys room in
      let h = s.inside in
      record {
        place = s.place;
        inside = omega arith;
        is = ap (λ (z : ℕ). both_le z (get_or (seconds (take n keys)) s.place 0) a b) (key-front (λ k. k.first) keys n s.place h)
            ∙ (ap (λ (z : ℕ). both_le (get_or (firsts keys) s.place 0) z a b) (key-front (λ k. k.second) keys n s.place h) ∙ s.is);
      }

-- ---- the loop that drops

module _ (kept₀ : List ℕ) (keys₀ : List Keys) (n a b : ℕ) (kept : List ℕ) (keys : List Keys) (i left : ℕ) (item : Keys) (is : item ≡ get_or keys i item)
    (p : Dropping kept₀ (firsts keys₀) (seconds keys₀) n a b kept (firsts keys) (seconds keys) i left) (l : i < n) (room : n ≤ length kept₀)
    (room-keys : n ≤ length keys₀) (r : Bool) (e : r ≡ both_le a b item.first item.second) where
  first-long : n ≤ length (firsts keys₀)
  first-long = let k = length-map keys₀ (λ (q : Keys). q.first) in omega arith

  second-long : n ≤ length (seconds keys₀)
  second-long = let k = length-map keys₀ (λ (q : Keys). q.second) in omega arith

  here : i < length keys
  here =
      let k = length-map keys (λ (q : Keys). q.first) in
      let m = p.long-low in
      let o = first-long in
      omega arith

  told : both_le a b (get_or (firsts keys) i 0) (get_or (seconds keys) i 0) ≡ r
  told =
      ap (λ (z : ℕ). both_le a b z (get_or (seconds keys) i 0)) (key-is (λ k. k.first) keys i item here is)
      ∙ (ap (λ (z : ℕ). both_le a b item.first z) (key-is (λ k. k.second) keys i item here is) ∙ sym e)

  as-pairs : (m : ℕ) → Dropping kept₀ (firsts keys₀) (seconds keys₀) n a b (set kept left (get_or kept i 0)) (set (firsts keys) left (get_or (firsts keys) i 0)) (set (seconds keys) left (get_or (seconds keys) i 0)) (i + 1) m
      → Dropping kept₀ (firsts keys₀) (seconds keys₀) n a b (set kept left (get_or kept i 0)) (firsts (set keys left item)) (seconds (set keys left item)) (i + 1) m
  as-pairs m q =
      subst (λ (z : List ℕ). Dropping kept₀ (firsts keys₀) (seconds keys₀) n a b (set kept left (get_or kept i 0)) z (seconds (set keys left item)) (i + 1) m)
      (sym (key-moved (λ k. k.first) keys left i item here is))
      (subst (λ (z : List ℕ). Dropping kept₀ (firsts keys₀) (seconds keys₀) n a b (set kept left (get_or kept i 0)) (set (firsts keys) left (get_or (firsts keys) i 0)) z (i + 1) m)
      (sym (key-moved (λ k. k.second) keys left i item here is)) q)

  pub pairs-more : r ≡ false → Dropping kept₀ (firsts keys₀) (seconds keys₀) n a b (set kept left (get_or kept i 0)) (firsts (set keys left item)) (seconds (set keys left item)) (i + 1) (left + 1)
  pairs-more t = as-pairs (left + 1) (dropping-more kept₀ (firsts keys₀) (seconds keys₀) n a b kept (firsts keys) (seconds keys) i left p l room first-long second-long (told ∙ t))

  pub pairs-same : r ≡ true → Dropping kept₀ (firsts keys₀) (seconds keys₀) n a b (set kept left (get_or kept i 0)) (firsts (set keys left item)) (seconds (set keys left item)) (i + 1) left
  pairs-same t = as-pairs left (dropping-same kept₀ (firsts keys₀) (seconds keys₀) n a b kept (firsts keys) (seconds keys) i left p l room first-long second-long (told ∙ t))

-- ---- a set is taken in

module _ (kept : List ℕ) (keys : List Keys) (n x : ℕ) (new : Keys) (room : n ≤ length kept) (room-keys : n ≤ length keys) where
  pub pairs-taken_same : SomeBelow (firsts (take n keys)) (seconds (take n keys)) (length (take n keys)) new.first new.second
      → SetTakenIn kept (firsts keys) (seconds keys) kept (firsts keys) (seconds keys) n x new.first new.second n
  pairs-taken_same s = taken-same kept (firsts keys) (seconds keys) n x new.first new.second room (some-front keys n new.first new.second room-keys s)

  pub pairs-taken : (SomeBelow (firsts (take n keys)) (seconds (take n keys)) (length (take n keys)) new.first new.second → ⊥)
      → (kept' : List ℕ) (keys' : List Keys) (r : ℕ) → Dropped kept (firsts keys) (seconds keys) kept' (firsts keys') (seconds keys') n new.first new.second r
      → r < length kept' → r < length keys'
      → SetTakenIn kept (firsts keys) (seconds keys) (set kept' r x) (firsts (set keys' r new)) (seconds (set keys' r new)) n x new.first new.second (r + 1)
  pairs-taken none kept' keys' r d h k =
      let low = length-map keys' (λ (q : Keys). q.first) in
      let high = length-map keys' (λ (q : Keys). q.second) in
      let t = taken_more kept (firsts keys) (seconds keys) n x new.first new.second room (λ s. none (front-some keys n new.first new.second room-keys s))
      kept' (firsts keys') (seconds keys') r d h (omega arith) (omega arith) in
      subst (λ (z : List ℕ). SetTakenIn kept (firsts keys) (seconds keys) (set kept' r x) z (seconds (set keys' r new)) n x new.first new.second (r + 1))
      (sym (map-set (λ (q : Keys). q.first) keys' r new))
      (subst (λ (z : List ℕ). SetTakenIn kept (firsts keys) (seconds keys) (set kept' r x) (set (firsts keys') r new.first) z n x new.first new.second (r + 1))
      (sym (map-set (λ (q : Keys). q.second) keys' r new)) t)
