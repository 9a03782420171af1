-- A family's members in rising order and by size: what stands there, in which order, and how many.
-- Assumes nothing.
use mathlib.Core.Path.{◌≡◌, refl, ap, ◌∙◌, subst}
use mathlib.Core.Logic.{inl, inr, ⊎_elim}
use mathlib.Core.List.{List, [], ◌∷◌}
use Prim.Native.Nat.{ℕ, zero, suc, ◌+◌, ◌-◌, ◌*◌, ◌/◌, ◌%◌, ◌^◌, ◌≤◌, ◌<◌}
use native.Mathlib.Omega.{arith}
use lib.Count.{ones, ones-le}
use lib.Dec.{eqb}
use lib.ListN.{length, get_or, length-append}
use borrow.Author.Tests.{eqb-true, eq-eqb, ne_eqb}
use Rattle.vertex_set.specs.Set.{Member, Iff}
use Rattle.vertex_set.specs.Order.{Listed, Before}
use Rattle.vertex_set.proofs.Cases.{same_or, less-or}
use Rattle.vertex_set.proofs.Sets.{none-in-zero}
use Rattle.vertex_set.proofs.Places.{places, listed-places, sorted-places}
use Rattle.vertex_set.proofs.Sorted.{listed-append, listed-map, listed-of-map, listed-only, Sorted, sorted-append, sorted-map, sorted-only, sorted-change}
use Rattle.families.specs.Inner.Family.{In, size}
use Rattle.families.proofs.Families.{none-beyond}
use Rattle.family_lists.specs.Inner.Tables.{masks_in, rising, of_size, by_size}
use Rattle.family_lists.proofs.Lists.{length-masks}

-- ---- in rising order

pub listed-masks : (b w m : ℕ) → Iff (Listed (masks_in b w) m) ((m / 64 ≡ b) × Member w (m % 64))
listed-masks b w m =
    record {
      to = λ h.
          let r = listed-of-map (λ (i : ℕ). b * 64 + i) (places 64 w) m h in
          let p = (listed-places 64 w r.0).to r.1 in
          let e : m % 64 ≡ r.0 = omega (arith, r.2, p.1) in
          (omega (arith, r.2, p.1), rw e p.0);
      from = λ p.
          let e : b * 64 + m % 64 ≡ m = omega (arith, p.0) in
          subst (λ (k : ℕ). Listed (masks_in b w) k) e
          (listed-map (λ (i : ℕ). b * 64 + i) (places 64 w) (m % 64) ((listed-places 64 w (m % 64)).from (p.1, omega arith)));
    }

listed-rising : (f : List ℕ) (b m : ℕ) → Iff (Listed (rising b f) m) ((b ≤ m / 64) × Member (get_or f (m / 64 - b) 0) (m % 64))
listed-rising [] b m = record { to = λ z. absurd z; from = λ p. none-in-zero (m % 64) p.1 }
listed-rising (w ∷ f) b m =
    let a = listed-append (masks_in b w) (rising (suc b) f) m in
    let ih = listed-rising f (suc b) m in
    let here = listed-masks b w m in
    let after : suc b ≤ m / 64 → m / 64 - b ≡ suc (m / 64 - suc b) = λ h. omega arith in
    record {
      to = λ h. ⊎_elim
          (λ p. let q = here.to p in let e : m / 64 - b ≡ 0 = omega (arith, q.0) in (omega (arith, q.0), rw e q.1))
          (λ p. let q = ih.to p in (omega (arith, q.0), rw (after q.0) q.1)) (a.to h);
      from = λ p. a.from (⊎_elim
          (λ e. let z : m / 64 - b ≡ 0 = omega arith in inl (here.from (e, rw z at p.1)))
          (λ n. let h : suc b ≤ m / 64 = omega (arith, p.0) in inr (ih.from (h, rw (after h) at p.1))) (same_or (m / 64) b));
    }

-- exactly the family's members
pub listed-members : (f : List ℕ) (m : ℕ) → Iff (Listed (rising 0 f) m) (In f m)
unfolding In
listed-members f m =
    let l = listed-rising f 0 m in
    let e : m / 64 - 0 ≡ m / 64 = omega arith in
    record { to = λ h. rw e at (l.to h).1; from = λ i. l.from (omega arith, rw e i) }

pub sorted-rising : (f : List ℕ) (b : ℕ) → Sorted ◌<◌ (rising b f)
sorted-rising [] b = tt
sorted-rising (w ∷ f) b =
    sorted-append ◌<◌ (masks_in b w) (rising (suc b) f)
    (sorted-map ◌<◌ ◌<◌ (λ (i : ℕ). b * 64 + i) (places 64 w) (λ x y p q h. omega arith) (sorted-places 64 w))
    (sorted-rising f (suc b))
    (λ x y p q. omega (arith, ((listed-masks b w x).to p).0, ((listed-rising f (suc b) y).to q).0))

-- the words are words
abbrev pub Words : List ℕ → Type 0
Words f = (i : ℕ) → get_or f i 0 < 2 ^ 64

pub length-rising : (f : List ℕ) (b : ℕ) → Words f → length (rising b f) ≡ size f
length-rising [] b h = refl
length-rising (w ∷ f) b h =
    let ih = length-rising f (suc b) (λ i. h (suc i)) in
    length-append (masks_in b w) (rising (suc b) f) ∙ rw (length-masks b w (h 0), ih)

pub size-bound : (f : List ℕ) → Words f → size f ≤ 64 * length f
size-bound [] h = omega arith
size-bound (w ∷ f) h = let ih = size-bound f (λ i. h (suc i)) in let k = ones-le 64 w (h 0) in omega arith

-- a family of 256 words has masks below 2 ^ 14, which have at most 14 bits
pub member-small : (f : List ℕ) (m : ℕ) → length f ≡ 256 → In f m → m < 16384
member-small f m e i = ⊎_elim (λ h. h) (λ h. absurd (none-beyond f m (omega arith) i)) (less-or m 16384)

-- ---- by size

pub listed-of-size : (l : List ℕ) (s m : ℕ) → Iff (Listed (of_size s l) m) (Listed l m × (ones m ≡ s))
listed-of-size l s m =
    let o = listed-only (λ (m : ℕ). eqb (ones m) s) l m in
    record { to = λ h. ((o.to h).0, eqb-true _ _ (o.to h).1); from = λ p. o.from (p.0, eq-eqb _ _ p.1) }

pub listed-by-size : (l : List ℕ) (n s m : ℕ) → Iff (Listed (by_size l s n) m) (Listed l m × (s ≤ ones m) × (ones m < s + n))
listed-by-size l zero s m = record { to = λ z. absurd z; from = λ p. let a = p.1 in let b = p.2 in absurd (omega arith) }
listed-by-size l (suc n) s m =
    let a = listed-append (of_size s l) (by_size l (suc s) n) m in
    let o = listed-of-size l s m in
    let ih = listed-by-size l n (suc s) m in
    record {
      to = λ h. ⊎_elim (λ p. let q = o.to p in let e = q.1 in (q.0, omega arith, omega arith))
          (λ p. let q = ih.to p in let x = q.1 in let y = q.2 in (q.0, omega arith, omega arith)) (a.to h);
      from = λ p.
          let x = p.1 in
          let y = p.2 in
          a.from (⊎_elim (λ e. inl (o.from (p.0, e))) (λ n. inr (ih.from (p.0, omega arith, omega arith))) (same_or (ones m) s));
    }

pub sorted-by-size : (l : List ℕ) (n s : ℕ) → Sorted ◌<◌ l → Sorted Before (by_size l s n)
unfolding Before
sorted-by-size l zero s p = tt
sorted-by-size l (suc n) s p =
    sorted-append Before (of_size s l) (by_size l (suc s) n)
    (sorted-change ◌<◌ Before (of_size s l)
    (λ x y a b h. let e = ((listed-of-size l s x).to a).1 in let f = ((listed-of-size l s y).to b).1 in inr (omega arith, h))
    (sorted-only ◌<◌ (λ (m : ℕ). eqb (ones m) s) l p))
    (sorted-by-size l n (suc s) p)
    (λ x y a b. let e = ((listed-of-size l s x).to a).1 in let h = ((listed-by-size l n (suc s) y).to b).1 in inl (omega arith))

-- a mask counts once, in the part of its size
cons-below : (x : ℕ) (l : List ℕ) (n s : ℕ) → ones x < s → length (by_size (x ∷ l) s n) ≡ length (by_size l s n)
cons-below x l zero s h = refl
cons-below x l (suc n) s h =
    let ih = cons-below x l n (suc s) (omega arith) in
    let e = ne_eqb (ones x) s (λ q. omega arith) in
    let a = length-append (of_size s l) (by_size (x ∷ l) (suc s) n) in
    let b = length-append (of_size s l) (by_size l (suc s) n) in
    rw e (omega arith)

cons-in : (x : ℕ) (l : List ℕ) (n s : ℕ) → s ≤ ones x → ones x < s + n → length (by_size (x ∷ l) s n) ≡ suc (length (by_size l s n))
cons-in x l zero s h k = absurd (omega arith)
cons-in x l (suc n) s h k =
    let a = length-append (of_size s l) (by_size (x ∷ l) (suc s) n) in
    let b = length-append (of_size s l) (by_size l (suc s) n) in
    ⊎_elim
    (λ (e : ones x ≡ s). let z = cons-below x l n (suc s) (omega arith) in rw (eq-eqb (ones x) s e) (omega arith))
    (λ (q : ones x ≡ s → ⊥). let ih = cons-in x l n (suc s) (omega arith) (omega arith) in rw (ne_eqb (ones x) s q) (omega arith))
    (same_or (ones x) s)

none-by-size : (n s : ℕ) → length (by_size [] s n) ≡ 0
none-by-size zero s = refl
none-by-size (suc n) s = none-by-size n (suc s)

pub length-by-size : (l : List ℕ) (n : ℕ) → ((m : ℕ) → Listed l m → ones m < n) → length (by_size l 0 n) ≡ length l
length-by-size [] n h = none-by-size n 0
length-by-size (x ∷ l) n h =
    cons-in x l n 0 (omega arith) (omega (arith, h x (inl refl))) ∙ ap suc (length-by-size l n (λ m p. h m (inr p)))
