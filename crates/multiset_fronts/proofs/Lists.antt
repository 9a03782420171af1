-- Laws of lists: the front of a list that something is stored into, and what comes before a place of a list in order.
-- Assumes nothing.
use mathlib.Core.Path.{◌≡◌, refl, sym, ap, subst, ◌∙◌}
use mathlib.Core.Bool.{Bool, true, false}
use mathlib.Core.List.{List, [], ◌∷◌, ◌++◌, append-nil}
use mathlib.Core.Logic.{inl, inr}
use Prim.Native.Nat.{ℕ, zero, suc, ◌+◌, ◌≤◌, ◌<◌}
use native.Mathlib.Numerals.{add-one}
use native.Mathlib.Omega.{arith}
use lib.ListN.{length, get_or, take, set}
use lib.Seq.{take-suc, take-suc-set}
use Rattle.vertex_set.specs.Order.{Listed}
use Rattle.vertex_set.proofs.Sorted.{only, only-append, Sorted}

-- what stands before n is in the first n
pub listed-take : (l : List ℕ) (n i : ℕ) → i < n → i < length l → Listed (take n l) (get_or l i 0)
listed-take [] n i h k = absurd (omega arith)
listed-take (x ∷ l) zero i h k = absurd (omega arith)
listed-take (x ∷ l) (suc n) zero h k = inl refl
listed-take (x ∷ l) (suc n) (suc i) h k = inr (listed-take l n i (omega arith) (omega arith))

-- what is in the first i is in the first n, where these are no fewer
pub listed-longer : (l : List ℕ) (i n x : ℕ) → i ≤ n → Listed (take i l) x → Listed (take n l) x
listed-longer [] zero n x h m = absurd m
listed-longer [] (suc i) n x h m = absurd m
listed-longer (y ∷ l) zero n x h m = absurd m
listed-longer (y ∷ l) (suc i) zero x h m = absurd (omega arith)
listed-longer (y ∷ l) (suc i) (suc n) x h (inl e) = inl e
listed-longer (y ∷ l) (suc i) (suc n) x h (inr m) = inr (listed-longer l i n x (omega arith) m)

-- what is in the first n has a place there
pub take-place : (l : List ℕ) (n y : ℕ) → Listed (take n l) y → (i : ℕ) × (i < n) × (i < length l) × (y ≡ get_or l i 0)
take-place [] zero y h = absurd h
take-place [] (suc n) y h = absurd h
take-place (x ∷ l) zero y h = absurd h
take-place (x ∷ l) (suc n) y (inl e) = (0, omega arith, omega arith, e)
take-place (x ∷ l) (suc n) y (inr h) =
    let r = take-place l n y h in (suc r.0, let a = r.1 in omega arith, let b = r.2 in omega arith, r.3)

-- of a list in order, what stands before a place comes before what stands there
pub sorted-place : (R : ℕ → ℕ → Type 0) (l : List ℕ) (n i y : ℕ) → Sorted R (take n l) → i < n → i < length l → Listed (take i l) y → R y (get_or l i 0)
sorted-place R [] n i y s h k m = absurd (omega arith)
sorted-place R (x ∷ l) zero i y s h k m = absurd (omega arith)
sorted-place R (x ∷ l) (suc n) zero y s h k m = absurd m
sorted-place R (x ∷ l) (suc n) (suc i) y s h k (inl e) =
    subst (λ (z : ℕ). R z (get_or l i 0)) (sym e) (s.0 (get_or l i 0) (listed-take l n i (omega arith) (omega arith)))
sorted-place R (x ∷ l) (suc n) (suc i) y s h k (inr m) = sorted-place R l n i y s.1 (omega arith) (omega arith) m

-- one place more
pub take_more : (l : List ℕ) (i : ℕ) → i < length l → take (i + 1) l ≡ take i l ++ (get_or l i 0 ∷ [])
take_more l i h = ap (λ (k : ℕ). take k l) (add-one i) ∙ take-suc l i 0 h

pub take-stored : (l : List ℕ) (i x : ℕ) → i < length l → take (i + 1) (set l i x) ≡ take i l ++ (x ∷ [])
take-stored l i x h = ap (λ (k : ℕ). take k (set l i x)) (add-one i) ∙ take-suc-set l i x h

-- one more that passes the test, and one that does not
pub only-more : (t : ℕ → Bool) (l : List ℕ) (x : ℕ) → t x ≡ true → only t (l ++ (x ∷ [])) ≡ only t l ++ (x ∷ [])
only-more t l x e = only-append t l (x ∷ []) ∙ rw e refl

pub only_same : (t : ℕ → Bool) (l : List ℕ) (x : ℕ) → t x ≡ false → only t (l ++ (x ∷ [])) ≡ only t l
only_same t l x e = only-append t l (x ∷ []) ∙ rw e (append-nil (only t l))
