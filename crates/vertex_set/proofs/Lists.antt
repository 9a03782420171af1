-- What stands in a list and at which place, lists without repetition, and lists of exactly the sets of which a predicate holds.
-- Assumes nothing.
use mathlib.Core.Path.{◌≡◌, refl, sym, ap, subst, ◌∙◌}
use mathlib.Core.List.{List, [], ◌∷◌, ◌++◌, map}
use mathlib.Core.Logic.{◌⊎◌, inl, inr, ⊎_elim}
use Prim.Native.Nat.{ℕ, zero, suc, ◌≤◌, ◌<◌}
use native.Mathlib.Omega.{arith}
use lib.ListN.{length, get_or, replicate}
use Rattle.vertex_set.specs.Set.{Iff}
use Rattle.vertex_set.specs.Order.{Listed, Once, Ordered, ListsExactly}
use Rattle.vertex_set.proofs.Cases.{same_or}
use Rattle.vertex_set.proofs.Sorted.{listed-append, listed-of-map, Sorted, not-before-self, ordered_same}

pub listed-or : (l : List ℕ) (x : ℕ) → Listed l x ⊎ (Listed l x → ⊥)
listed-or [] x = inr (λ h. h)
listed-or (y ∷ l) x = ⊎_elim (λ e. inl (inl e)) (λ n. ⊎_elim (λ h. inl (inr h)) (λ m. inr (⊎_elim n m)) (listed-or l x)) (same_or x y)

-- what stands at a place stands in the list, and what stands in it has a place there
pub listed_at : (l : List ℕ) (i : ℕ) → i < length l → Listed l (get_or l i 0)
listed_at [] i h = absurd (omega arith)
listed_at (x ∷ l) zero h = inl refl
listed_at (x ∷ l) (suc i) h = inr (listed_at l i (omega arith))

pub place_of : (l : List ℕ) (x : ℕ) → Listed l x → (i : ℕ) × (i < length l) × (get_or l i 0 ≡ x)
place_of [] x h = absurd h
place_of (y ∷ l) x (inl e) = (0, omega arith, sym e)
place_of (y ∷ l) x (inr h) = let p = place_of l x h in (suc p.0, let q = p.1 in omega arith, p.2)

-- a list of zeros has a zero at every place, and behind its end
pub zeros : (n i : ℕ) → get_or {A = ℕ} (replicate n 0) i 0 ≡ 0
zeros zero i = refl
zeros (suc n) zero = refl
zeros (suc n) (suc i) = zeros n i

-- ---- lists without repetition

-- a list without one place at which x stands
record Removed (l : List ℕ) (x : ℕ) : Type 0 where
  rest : List ℕ
  shorter : length l ≡ suc (length rest)
  kept : (y : ℕ) → Listed l y → (y ≡ x) ⊎ Listed rest y

remove : (l : List ℕ) (x : ℕ) → Listed l x → Removed l x
remove [] x h = absurd h
remove (y ∷ l) x (inl e) = record { rest = l; shorter = refl; kept = λ z. ⊎_elim (λ q. inl (q ∙ sym e)) (λ q. inr q) }
remove (y ∷ l) x (inr h) =
    let r = remove l x h in
    record {
      rest = y ∷ r.rest;
      shorter = ap suc r.shorter;
      kept = λ z. ⊎_elim (λ q. inr (inl q)) (λ q. ⊎_elim (λ e. inl e) (λ k. inr (inr k)) (r.kept z q));
    }

-- a list without repetition is no longer than one that has all of it
pub once-le : (a b : List ℕ) → Once a → ((x : ℕ) → Listed a x → Listed b x) → length a ≤ length b
once-le [] b o s = omega arith
once-le (x ∷ a) b o s =
    let r = remove b x (s x (inl refl)) in
    let h = once-le a r.rest o.1 (λ y i. ⊎_elim (λ e. absurd (o.0 (subst (Listed a) e i))) (λ k. k) (r.kept y (s y (inr i)))) in
    let q = r.shorter in
    omega arith

-- and where it is as long, it has all of that one
pub once-all : (a b : List ℕ) → Once a → ((x : ℕ) → Listed a x → Listed b x) → length b ≤ length a → (x : ℕ) → Listed b x → Listed a x
once-all a b o s l x i =
    ⊎_elim (λ h. h) (λ n. absurd (let h = once-le (x ∷ a) b (n, o) (λ y. ⊎_elim (λ e. subst (Listed b) (sym e) i) (s y)) in omega arith)) (listed-or a x)

-- numbers that a function takes to different ones stay without repetition
pub once-map : (f : ℕ → ℕ) (l : List ℕ) → ((x y : ℕ) → Listed l x → Listed l y → f x ≡ f y → x ≡ y) → Once l → Once (map f l)
once-map f [] i o = tt
once-map f (x ∷ l) i o = (
  λ h. let k = listed-of-map f l (f x) h in o.0 (subst (Listed l) (sym (i x k.0 (inl refl) (inr k.1) k.2)) k.1),
  once-map f l (λ y z p q. i y z (inr p) (inr q)) o.1,
)

-- and so do two lists with nothing in common, one behind the other
pub once-append : (a b : List ℕ) → Once a → Once b → ((x : ℕ) → Listed a x → Listed b x → ⊥) → Once (a ++ b)
once-append [] b p q d = q
once-append (x ∷ a) b p q d =
    (λ h. ⊎_elim p.0 (d x (inl refl)) ((listed-append a b x).to h), once-append a b p.1 q (λ y i. d y (inr i)))

pub sorted-once : (l : List ℕ) → Sorted ◌<◌ l → Once l
sorted-once [] s = tt
sorted-once (x ∷ l) s = (λ h. let k = s.0 x h in omega arith, sorted-once l s.1)

pub ordered-once : (l : List ℕ) → Ordered l → Once l
ordered-once [] o = tt
ordered-once (x ∷ l) o = (λ h. not-before-self x (o.0 x h), ordered-once l o.1)

-- ---- the list of exactly the sets of which a predicate holds

-- there is one such list only
pub exactly-unique : (P : ℕ → Type 0) (l k : List ℕ) → ListsExactly P l → ListsExactly P k → l ≡ k
exactly-unique P l k p q =
    ordered_same l k p.ordered q.ordered (λ x. record { to = λ h. q.whole x (p.sound x h); from = λ h. p.whole x (q.sound x h) })

-- and it lists what another predicate holds of, if both hold of the same sets
pub exactly-same : (P Q : ℕ → Type 0) (l : List ℕ) → ((x : ℕ) → Iff (P x) (Q x)) → ListsExactly P l → ListsExactly Q l
exactly-same P Q l i p =
    record { sound = λ x h. (i x).to (p.sound x h); whole = λ x h. p.whole x ((i x).from h); ordered = p.ordered }
