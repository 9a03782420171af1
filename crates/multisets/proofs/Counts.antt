-- How many values of a list are at or above a threshold, and the lowest value above one.
-- Assumes nothing.
use mathlib.Core.Path.{◌≡◌, refl, sym, ap, ◌∙◌}
use native.Mathlib.Numerals.{add-one}
use mathlib.Core.List.{List, [], ◌∷◌, ◌++◌}
use mathlib.Core.Logic.{◌⊎◌, inl, inr, ⊎_elim}
use Prim.Native.Nat.{ℕ, zero, suc, ◌+◌, ◌≤◌, ◌<◌, max}
use native.Mathlib.Omega.{arith}
use lib.Dec.{eqb, leb}
use lib.ListN.{length, get_or, drop}
use lib.Seq.{drop-cons, drop-length}
use Rattle.vertex_set.specs.Order.{Listed}
use Rattle.vertex_set.proofs.Cases.{by_test, less-or}
use Rattle.vertex_set.proofs.Decisions.{decide-leb, decide-eqb}
use Rattle.multisets.specs.Multisets.{times, SameMultiset}
use Rattle.multisets.specs.Meaning.{is_high, at_least}

pub is-high : (t x : ℕ) → t ≤ x → is_high t x ≡ 1
unfolding is_high
is-high t x l = by_test (leb t x) (λ e. rw e refl) (λ e. absurd ((decide-leb t x).no e l))

pub not-high : (t x : ℕ) → x < t → is_high t x ≡ 0
unfolding is_high
not-high t x l = by_test (leb t x) (λ e. absurd (let h = (decide-leb t x).yes e in omega arith)) (λ e. rw e refl)

pub at-least-append : (a b : List ℕ) (t : ℕ) → at_least (a ++ b) t ≡ at_least a t + at_least b t
at-least-append [] b t = omega arith
at-least-append (x ∷ a) b t = let h = at-least-append a b t in omega arith

pub at-least-falls : (l : List ℕ) (s t : ℕ) → s ≤ t → at_least l t ≤ at_least l s
at-least-falls [] s t h = omega arith
at-least-falls (x ∷ l) s t h =
    let r = at-least-falls l s t h in
    ⊎_elim (λ k. let a = not-high t x k in omega arith) (λ k. let a = is-high t x k in let b = is-high s x (omega arith) in omega arith) (less-or x t)

-- nothing lies between x and y: as many at least t as at least x, for each t between them
pub gap : (l : List ℕ) (x y t : ℕ) → ((z : ℕ) → Listed l z → x ≤ z → y ≤ z) → x ≤ t → t ≤ y → at_least l x ≡ at_least l t
gap [] x y t h p q = refl
gap (z ∷ l) x y t h p q =
    let r = gap l x y t (λ w i. h w (inr i)) p q in
    ⊎_elim
    (λ k. let a = not-high x z k in let b = not-high t z (omega arith) in omega arith)
    (λ k. let a = is-high x z k in let hy = h z (inl refl) k in let b = is-high t z (omega arith) in omega arith)
    (less-or z x)

-- the lowest value of n that is at least x, with what is left when it is taken out
pub record Taken (x : ℕ) (n : List ℕ) : Type 0 where
  pub value : ℕ
  pub front : List ℕ
  pub back : List ℕ
  pub is : n ≡ front ++ (value ∷ back)
  pub high : x ≤ value
  pub lowest : (z : ℕ) → Listed n z → x ≤ z → value ≤ z

pub take-lowest : (x : ℕ) (n : List ℕ) → Taken x n ⊎ ((z : ℕ) → Listed n z → z < x)
take-lowest x [] = inr (λ z h. absurd h)
take-lowest x (z ∷ l) = ⊎_elim some_left (λ none. ⊎_elim (λ k. inr (λ w. ⊎_elim (λ e. rw e k) (none w))) (λ k. inl (here k (λ w i h. absurd (let q = none w i in omega arith)))) (less-or z x)) (take-lowest x l)
  where
    here : x ≤ z → ((w : ℕ) → Listed l w → x ≤ w → z ≤ w) → Taken x (z ∷ l)
    here k low = record { value = z; front = []; back = l; is = refl; high = k; lowest = λ w. ⊎_elim (λ e p. rw e (omega arith)) (λ i p. low w i p) }

    some_left : Taken x l → Taken x (z ∷ l) ⊎ ((w : ℕ) → Listed (z ∷ l) w → w < x)
    some_left r =
        ⊎_elim
        (λ k. ⊎_elim (λ j. inl (here k (λ w i p. let q = r.lowest w i p in omega arith))) (λ j. inl (later (λ p. j))) (less-or z r.value))
        (λ k. inl (later (λ p. absurd (omega arith))))
        (⊎_elim (λ a. inr a) (λ a. inl a) (less-or z x))
      where
        later : (x ≤ z → r.value ≤ z) → Taken x (z ∷ l)
        later own = record {
          value = r.value;
          front = z ∷ r.front;
          back = r.back;
          is = ap (λ (q : List ℕ). z ∷ q) r.is;
          high = r.high;
          lowest = λ w. ⊎_elim (λ e p. rw e (own (rw (sym e) p))) (λ i p. r.lowest w i p);
        }

pub none-high : (l : List ℕ) (x : ℕ) → ((z : ℕ) → Listed l z → z < x) → at_least l x ≡ 0
none-high [] x h = refl
none-high (z ∷ l) x h = let a = not-high x z (h z (inl refl)) in let r = none-high l x (λ w i. h w (inr i)) in omega arith

-- ---- how often a value stands in a list

pub times-at : (l : List ℕ) (t : ℕ) → at_least l t ≡ times l t + at_least l (suc t)
times-at [] t = refl
times-at (x ∷ l) t =
    let h = times-at l t in
    by_test (eqb x t)
    (λ e. rw e (let q = (decide-eqb x t).yes e in let a = is-high t x (omega arith) in let b = not-high (suc t) x (omega arith) in omega arith))
    (λ e. rw e (let q = (decide-eqb x t).no e in ⊎_elim
    (λ k. let a = not-high t x k in let b = not-high (suc t) x (omega arith) in omega arith)
    (λ k. let a = is-high t x k in let b = is-high (suc t) x (omega (arith, q)) in omega arith) (less-or x t)))

-- ---- the same counts, and the same multiset

pub same-of-counts : (m n : List ℕ) → ((t : ℕ) → at_least m t ≡ at_least n t) → SameMultiset m n
same-of-counts m n h =
    record { each = λ t. let a = h t in let b = h (suc t) in let e = times-at m t in let f = times-at n t in omega arith }

-- no value of the list is above this number
abbrev top : List ℕ → ℕ
top [] = 0
top (x ∷ l) = max x (top l)

above-top : (l : List ℕ) (t : ℕ) → top l < t → at_least l t ≡ 0
above-top [] t h = refl
above-top (x ∷ l) t h = let a = not-high t x (omega arith) in let r = above-top l t (omega arith) in omega arith

pub counts-of-same : (m n : List ℕ) → SameMultiset m n → (t : ℕ) → at_least m t ≡ at_least n t
counts-of-same m n s t = down (suc (max (top m) (top n))) t (omega arith)
  where
    down : (k t : ℕ) → max (top m) (top n) < k + t → at_least m t ≡ at_least n t
    down zero t h = let a = above-top m t (omega arith) in let b = above-top n t (omega arith) in omega arith
    down (suc k) t h = let r = down k (suc t) (omega arith) in let e = times-at m t in let f = times-at n t in let q = s.each t in omega arith

pub at-least-all : (l : List ℕ) → at_least l 0 ≡ length l
at-least-all [] = refl
at-least-all (x ∷ l) = let a = is-high 0 x (omega arith) in let r = at-least-all l in omega arith

pub at-least-most : (l : List ℕ) (t : ℕ) → at_least l t ≤ length l
at-least-most l t = let a = at-least-falls l 0 t (omega arith) in let b = at-least-all l in omega arith

-- ---- the loop that counts: the values before i are counted, those from i on are not

pub counting_more : (l : List ℕ) (t i n : ℕ) → i < length l → n + at_least (drop i l) t ≡ at_least l t → t ≤ get_or l i 0
    → (n + 1) + at_least (drop (i + 1) l) t ≡ at_least l t
counting_more l t i n h e k =
    let a = is-high t (get_or l i 0) k in
    let d = ap (λ (q : List ℕ). at_least q t) (drop-cons l i 0 h) in
    rw (add-one i) (omega arith)

pub counting-same : (l : List ℕ) (t i n : ℕ) → i < length l → n + at_least (drop i l) t ≡ at_least l t → get_or l i 0 < t
    → n + at_least (drop (i + 1) l) t ≡ at_least l t
counting-same l t i n h e k =
    let a = not-high t (get_or l i 0) k in
    let d = ap (λ (q : List ℕ). at_least q t) (drop-cons l i 0 h) in
    rw (add-one i) (omega arith)

pub counting-end : (l : List ℕ) (t i n : ℕ) → i ≡ length l → n + at_least (drop i l) t ≡ at_least l t → n ≡ at_least l t
counting-end l t i n h e =
    let d = ap (λ (q : List ℕ). at_least q t) (ap (λ (j : ℕ). drop j l) h ∙ drop-length l) in omega arith
