-- Lists whose elements are numbered: what holds of each, that no two are alike, and how many there are.
-- Assumes nothing.
use mathlib.Core.Path.{◌≡◌, refl, sym, ap, subst}
use mathlib.Core.List.Memᴰ
use mathlib.Core.List.{List, [], ◌∷◌, ◌++◌, Memᴰ}
use mathlib.Core.Logic.{⊎_elim}
use Prim.Native.Nat.{ℕ, zero, suc, ◌%◌, ◌^◌, ◌≤◌, ◌<◌}
use native.Mathlib.Numerals.{add-one}
use native.Mathlib.Omega.{arith}
use lib.ListN.{length, get_or, take, length-append}
use lib.Count.{ones}
use Rattle.vertex_set.proofs.Cases.{same_or}
use Rattle.vertex_set.proofs.Digits.{digit}
use Rattle.vertex_set.proofs.Sets.{ones-below-more}
use Rattle.setup.specs.Setup.{total}
use Rattle.setup.proofs.Counts.{total-more}
use Rattle.sheet_format.specs.Rows.{Each, Apart}

-- x stands in the list.
abbrev pub In : {A : Type 0} → A → List A → Type 0
In x xs = Memᴰ x xs

-- ---- each element

pub each_of : {A : Type 0} (P : A → Type 0) (xs : List A) → ((x : A) → In x xs → P x) → Each P xs
each_of P [] h = tt
each_of P (x ∷ xs) h = (h x (Memᴰ.head refl), each_of P xs (λ y m. h y (Memᴰ.tail m)))

pub of-each : {A : Type 0} (P : A → Type 0) (xs : List A) → Each P xs → (x : A) → In x xs → P x
of-each P [] e x m = absurd (Memᴰ.not-nil m)
of-each P (y ∷ ys) e x m = ⊎_elim (λ p. subst P (sym p) e.0) (λ k. of-each P ys e.1 x k) (Memᴰ.cases_cons m)

-- two lists without like elements, of which none of the one is like one of the other
pub apart-append : {A : Type 0} (R : A → A → Type 0) (xs ys : List A) → Apart R xs → Apart R ys
    → ((x y : A) → In x xs → In y ys → R x y → ⊥) → Apart R (xs ++ ys)
apart-append R [] ys p q h = q
apart-append R (x ∷ xs) ys p q h = (
  each_of (λ y. R x y → ⊥) (xs ++ ys) (λ y m.
      ⊎_elim (λ k. of-each (λ z. R x z → ⊥) xs p.0 y k) (λ k. h x y (Memᴰ.head refl) k) (Memᴰ.append_cases xs m)),
  apart-append R xs ys p.1 q (λ a b m k. h a b (Memᴰ.tail m) k),
)

-- ---- numbered parts, one after another

-- The lists f 0, f 1 .. f (n - 1), joined.
unfoldable pub collect : {A : Type 0} → (ℕ → List A) → ℕ → List A
collect f zero = []
collect f (suc n) = collect f n ++ f n

pub in-collect : {A : Type 0} (f : ℕ → List A) (n i : ℕ) (x : A) → i < n → In x (f i) → In x (collect f n)
unfolding collect
in-collect f zero i x l m = absurd (omega arith)
in-collect f (suc n) i x l m =
    ⊎_elim
    (λ e. Memᴰ.append_right (collect f n) (subst (λ (j : ℕ). In x (f j)) e m))
    (λ d. Memᴰ.append_left (f n) (in-collect f n i x (omega (arith, d)) m))
    (same_or i n)

pub record Collected {A : Type 0} (f : ℕ → List A) (n : ℕ) (x : A) : Type 0 where
  pub part : ℕ
  pub below : part < n
  pub stands : In x (f part)

pub collected : {A : Type 0} (f : ℕ → List A) (n : ℕ) (x : A) → In x (collect f n) → Collected f n x
unfolding collect
collected f zero x m = absurd (Memᴰ.not-nil m)
collected f (suc n) x m =
    ⊎_elim
    (λ k. let c = collected f n x k in record { part = c.part; below = omega arith; stands = c.stands })
    (λ k. record { part = n; below = omega arith; stands = k })
    (Memᴰ.append_cases (collect f n) m)

-- no part has like elements, and no two parts have
pub apart-collect : {A : Type 0} (R : A → A → Type 0) (f : ℕ → List A) (n : ℕ) → ((i : ℕ) → i < n → Apart R (f i))
    → ((i j : ℕ) → i < j → j < n → (x y : A) → In x (f i) → In y (f j) → R x y → ⊥) → Apart R (collect f n)
unfolding collect
apart-collect R f zero p h = tt
apart-collect R f (suc n) p h =
    apart-append R (collect f n) (f n)
    (apart-collect R f n (λ i l. p i (omega arith)) (λ i j l k. h i j l (omega arith)))
    (p n (omega arith))
    (λ x y m k. let c = collected f n x m in h c.part n c.below (omega arith) x y c.stands k)

-- as many elements as the list's own elements say
pub length-collect : {A B : Type 0} (f : ℕ → List A) (g : B → ℕ) (xs : List B) (d : B) (n : ℕ) → n ≤ length xs
    → ((i : ℕ) → i < n → length (f i) ≡ g (get_or xs i d)) → length (collect f n) ≡ total g (take n xs)
unfolding collect
length-collect f g xs d zero l h = refl
length-collect f g xs d (suc n) l h =
    let p = length-append (collect f n) (f n) in
    let q = length-collect f g xs d n (omega arith) (λ i k. h i (omega arith)) in
    let m = rw add-one at (total-more g xs n d (omega arith)) in
    let e = h n (omega arith) in
    omega arith

-- as many elements as the set has members, where each member gives one
pub length-collect-ones : {A : Type 0} (f : ℕ → List A) (s n : ℕ) → ((i : ℕ) → length (f i) ≡ digit s i) → length (collect f n) ≡ ones (s % 2 ^ n)
unfolding collect ones
length-collect-ones f s zero h = sym (ap ones (native.Mathlib.Nat.mod-one s))
length-collect-ones f s (suc n) h =
    let p = length-append (collect f n) (f n) in
    let q = length-collect-ones f s n h in
    let m = ones-below-more s n in
    let e = h n in
    omega arith
