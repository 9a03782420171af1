-- The arrangement of a multiset, the highest value first: it is the same multiset, it descends, and sorted lists compare place by place.
-- Assumes nothing.
use mathlib.Core.Path.{◌≡◌, refl, ap, ◌∙◌}
use mathlib.Core.List.{List, [], ◌∷◌}
use mathlib.Core.Logic.{⊎_elim}
use Prim.Native.Nat.{ℕ, zero, suc, ◌+◌, ◌≤◌, ◌<◌, max, min}
use native.Mathlib.Nat.{add_comm}
use native.Mathlib.Omega.{arith}
use lib.ListN.{length, get_or}
use lib.Seq.{ext_get_or}
use Rattle.vertex_set.proofs.Cases.{less-or}
use Rattle.multisets.specs.Multisets.{put_high, highest_first}
use Rattle.multisets.specs.Meaning.{is_high, at_least, Fewer, PlaceByPlace, Descending}
use Rattle.multisets.proofs.Counts.{is-high, not-high, at-least-all}

-- ---- the same counts

pub length-put : (x : ℕ) (l : List ℕ) → length (put_high x l) ≡ suc (length l)
length-put x [] = refl
length-put x (y ∷ l) = ap suc (length-put (min x y) l)

pub length-arranged : (l : List ℕ) → length (highest_first l) ≡ length l
length-arranged [] = refl
length-arranged (x ∷ l) = length-put x (highest_first l) ∙ ap suc (length-arranged l)

both_high : (t x y : ℕ) → is_high t (max x y) + is_high t (min x y) ≡ is_high t x + is_high t y
both_high t x y =
    ⊎_elim (λ l. let e : max x y ≡ y = omega arith in let f : min x y ≡ x = omega arith in rw (e, f) (add_comm (is_high t y) (is_high t x)))
    (λ l. let e : max x y ≡ x = omega arith in let f : min x y ≡ y = omega arith in rw (e, f) refl) (less-or x y)

at-least-put : (x : ℕ) (l : List ℕ) (t : ℕ) → at_least (put_high x l) t ≡ is_high t x + at_least l t
at-least-put x [] t = refl
at-least-put x (y ∷ l) t = let h = at-least-put (min x y) l t in let b = both_high t x y in omega arith

pub at-least-arranged : (l : List ℕ) (t : ℕ) → at_least (highest_first l) t ≡ at_least l t
at-least-arranged [] t = refl
at-least-arranged (x ∷ l) t = let a = at-least-put x (highest_first l) t in let r = at-least-arranged l t in omega arith

-- ---- it descends

-- no value of the list is above b, and each is at least as high as the next
abbrev Falls : ℕ → List ℕ → Type 0
Falls b [] = Unit {0}
Falls b (x ∷ l) = (x ≤ b) × Falls x l

falls-put : (b x : ℕ) (l : List ℕ) → x ≤ b → Falls b l → Falls b (put_high x l)
falls-put b x [] h f = (h, tt)
falls-put b x (y ∷ l) h f =
    let k = f.0 in
    (omega arith, falls-put (max x y) (min x y) l (omega arith) (falls-more y (max x y) l (omega arith) f.1))
  where
    falls-more : (a c : ℕ) (k : List ℕ) → a ≤ c → Falls a k → Falls c k
    falls-more a c [] h f = tt
    falls-more a c (z ∷ k) h f = (let q = f.0 in omega arith, f.1)

falls-own : (b : ℕ) (l : List ℕ) → Falls b l → (x : ℕ) → Falls (max x b) (put_high x l)
falls-own b l f x = falls-put (max x b) x l (omega arith) (wider l f)
  where
    wider : (k : List ℕ) → Falls b k → Falls (max x b) k
    wider [] g = tt
    wider (z ∷ k) g = (let q = g.0 in omega arith, g.1)

arranged-falls : (l : List ℕ) → (b : ℕ) × Falls b (highest_first l)
arranged-falls [] = (0, tt)
arranged-falls (x ∷ l) = let r = arranged-falls l in (max x r.0, falls-own r.0 (highest_first l) r.1 x)

falls-descends : (b : ℕ) (l : List ℕ) → Falls b l → (i : ℕ) → suc i < length l → get_or l (suc i) 0 ≤ get_or l i 0
falls-descends b [] f i h = absurd (omega arith)
falls-descends b (x ∷ []) f i h = absurd (omega arith)
falls-descends b (x ∷ y ∷ l) f zero h = f.1.0
falls-descends b (x ∷ y ∷ l) f (suc i) h = falls-descends x (y ∷ l) f.1 i (omega arith)

pub arranged-descends : (l : List ℕ) → Descending (highest_first l)
arranged-descends l = let r = arranged-falls l in record { each = falls-descends r.0 (highest_first l) r.1 }

-- ---- a place of a falling list, by counts

falls-bound : (b : ℕ) (l : List ℕ) (t : ℕ) → Falls b l → b < t → at_least l t ≡ 0
falls-bound b [] t f h = refl
falls-bound b (x ∷ l) t f h =
    let q = f.0 in let a = not-high t x (omega arith) in let r = falls-bound x l t f.1 (omega arith) in omega arith

-- more than i values are at least t: so is the one at place i
high-place : (b : ℕ) (l : List ℕ) (t i : ℕ) → Falls b l → i < at_least l t → (i < length l) × (t ≤ get_or l i 0)
high-place b [] t i f h = absurd (omega arith)
high-place b (x ∷ l) t zero f h =
    ⊎_elim (λ k. absurd (let a = not-high t x k in let r = falls-bound x l t f.1 k in omega arith)) (λ k. (omega arith, k)) (less-or x t)
high-place b (x ∷ l) t (suc i) f h =
    ⊎_elim (λ k. absurd (let a = not-high t x k in let r = falls-bound x l t f.1 k in omega arith))
    (λ k. let a = is-high t x k in let r = high-place x l t i f.1 (omega arith) in (let q = r.0 in omega arith, r.1)) (less-or x t)

-- and back
place-high : (b : ℕ) (l : List ℕ) (t i : ℕ) → Falls b l → i < length l → t ≤ get_or l i 0 → i < at_least l t
place-high b [] t i f h k = absurd (omega arith)
place-high b (x ∷ l) t zero f h k = let a = is-high t x k in omega arith
place-high b (x ∷ l) t (suc i) f h k =
    let r = place-high x l t i f.1 (omega arith) k in
    ⊎_elim (λ q. absurd (let z = falls-bound x l t f.1 q in omega arith)) (λ q. let a = is-high t x q in omega arith) (less-or x t)

-- ---- sorted lists compare place by place

module _ (m n : List ℕ) where
  pub fewer-places : Fewer m n → PlaceByPlace m n
  fewer-places f =
      record {
        long = let a = f 0 in let b = at-least-all m in let c = at-least-all n in omega arith;
        each = λ i l. place i l;
      }
    where
      place : (i : ℕ) → i < length m → get_or (highest_first m) i 0 ≤ get_or (highest_first n) i 0
      place i l =
          let p = arranged-falls m in
          let q = arranged-falls n in
          let t : ℕ = get_or (highest_first m) i 0 in
          let k = place-high p.0 (highest_first m) t i p.1 (let e = length-arranged m in omega arith) (omega arith) in
          (high-place q.0 (highest_first n) t i q.1 (let a = at-least-arranged m t in let b = at-least-arranged n t in let g = f t in omega arith)).1

  pub places-fewer : PlaceByPlace m n → Fewer m n
  places-fewer c t = all (at_least m t) refl
    where
      all : (k : ℕ) → at_least m t ≡ k → at_least m t ≤ at_least n t
      all zero e = omega arith
      all (suc i) e =
          let p = arranged-falls m in
          let q = arranged-falls n in
          let h = high-place p.0 (highest_first m) t i p.1 (let a = at-least-arranged m t in omega arith) in
          let lm = length-arranged m in
          let ln = length-arranged n in
          let lg = c.long in
          let inside : i < length m = let z = h.0 in omega arith in
          let over = c.each i inside in
          let k = place-high q.0 (highest_first n) t i q.1 (omega arith) (let z = h.1 in omega arith) in
          let b = at-least-arranged n t in omega arith

-- lists with the same counts have one arrangement
pub one-arrangement : (m n : List ℕ) → ((t : ℕ) → at_least m t ≡ at_least n t) → highest_first m ≡ highest_first n
one-arrangement m n h =
    let a = fewer-places m n (λ t. let e = h t in omega arith) in
    let b = fewer-places n m (λ t. let e = h t in omega arith) in
    let p = a.long in let q = b.long in let lm = length-arranged m in let ln = length-arranged n in
    ext_get_or 0 (highest_first m) (highest_first n) (omega arith)
    (λ i l. let x = a.each i (omega arith) in let y = b.each i (omega arith) in omega arith)
