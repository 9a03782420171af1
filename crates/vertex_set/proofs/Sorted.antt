-- Lists of numbers: what stands in them, and their order by any relation.
-- Assumes nothing.
use mathlib.Core.Path.{◌≡◌, refl, sym, ap, ◌∙◌, subst}
use mathlib.Core.Bool.{Bool, true, false}
use mathlib.Core.Logic.{◌⊎◌, inl, inr, ⊎_elim}
use mathlib.Core.List.{List, [], ◌∷◌, ◌++◌, map}
use Prim.Native.Nat.{ℕ}
use native.Mathlib.Omega.{arith}
use Rattle.vertex_set.specs.Set.{Iff}
use Rattle.vertex_set.specs.Order.{Listed, Before, Ordered}
use Rattle.vertex_set.proofs.Cases.{by_test, false-true}

-- ---- what stands in a list

pub listed-append : (l k : List ℕ) (x : ℕ) → Iff (Listed (l ++ k) x) (Listed l x ⊎ Listed k x)
listed-append [] k x = record { to = λ h. inr h; from = ⊎_elim (λ z. absurd z) (λ h. h) }
listed-append (y ∷ l) k x =
    let ih = listed-append l k x in
    record {
      to = ⊎_elim (λ e. inl (inl e)) (λ h. ⊎_elim (λ a. inl (inr a)) (λ b. inr b) (ih.to h));
      from = ⊎_elim (⊎_elim (λ e. inl e) (λ a. inr (ih.from (inl a)))) (λ b. inr (ih.from (inr b)));
    }

pub listed-map : (f : ℕ → ℕ) (l : List ℕ) (x : ℕ) → Listed l x → Listed (map f l) (f x)
listed-map f [] x z = z
listed-map f (y ∷ l) x h = ⊎_elim (λ e. inl (ap f e)) (λ m. inr (listed-map f l x m)) h

pub listed-of-map : (f : ℕ → ℕ) (l : List ℕ) (y : ℕ) → Listed (map f l) y → (x : ℕ) × Listed l x × (y ≡ f x)
listed-of-map f [] y z = absurd z
listed-of-map f (x ∷ l) y h =
    ⊎_elim (λ e. (x, inl refl, e)) (λ m. let r = listed-of-map f l y m in (r.0, inr r.1, r.2)) h

pub map_same : (f g : ℕ → ℕ) (l : List ℕ) → ((x : ℕ) → Listed l x → f x ≡ g x) → map f l ≡ map g l
map_same f g [] h = refl
map_same f g (x ∷ l) h = rw (h x (inl refl), map_same f g l (λ y m. h y (inr m)))

-- ---- the part of a list that passes a test

abbrev pub keep : Bool → ℕ → List ℕ → List ℕ
keep true x l = x ∷ l
keep false x l = l

abbrev pub only : (ℕ → Bool) → List ℕ → List ℕ
only t [] = []
only t (x ∷ l) = keep (t x) x (only t l)

pub listed-only : (t : ℕ → Bool) (l : List ℕ) (x : ℕ) → Iff (Listed (only t l) x) (Listed l x × (t x ≡ true))
listed-only t [] x = record { to = λ z. absurd z; from = λ p. p.0 }
listed-only t (y ∷ l) x =
    let ih = listed-only t l x in
    by_test (t y)
    (λ e. rw e (record {
      to = ⊎_elim (λ q. (inl q, ap t q ∙ e)) (λ h. (inr (ih.to h).0, (ih.to h).1));
      from = λ p. ⊎_elim (λ q. inl q) (λ h. inr (ih.from (h, p.1))) p.0;
    }))
    (λ e. rw e (record {
      to = λ h. (inr (ih.to h).0, (ih.to h).1);
      from = λ p. ⊎_elim (λ q. absurd (false-true (sym e ∙ sym (ap t q) ∙ p.1))) (λ h. ih.from (h, p.1)) p.0;
    }))

pub only-append : (t : ℕ → Bool) (l k : List ℕ) → only t (l ++ k) ≡ only t l ++ only t k
only-append t [] k = refl
only-append t (x ∷ l) k =
    let ih = only-append t l k in
    by_test (t x) (λ e. rw e (ap (λ (r : List ℕ). x ∷ r) ih)) (λ e. rw e ih)

pub only-map : (t : ℕ → Bool) (f : ℕ → ℕ) (l : List ℕ) → only t (map f l) ≡ map f (only (λ (x : ℕ). t (f x)) l)
only-map t f [] = refl
only-map t f (x ∷ l) =
    let ih = only-map t f l in
    by_test (t (f x)) (λ e. rw e (ap (λ (r : List ℕ). f x ∷ r) ih)) (λ e. rw e ih)

pub only_same : (t u : ℕ → Bool) (l : List ℕ) → ((x : ℕ) → Listed l x → t x ≡ u x) → only t l ≡ only u l
only_same t u [] h = refl
only_same t u (x ∷ l) h =
    let ih = only_same t u l (λ y m. h y (inr m)) in
    let e = h x (inl refl) in
    rw (e, ih)

-- ---- lists in order

-- Each number of the list has the relation to all that follow it.
abbrev pub Sorted : (ℕ → ℕ → Type 0) → List ℕ → Type 0
Sorted R [] = Unit {0}
Sorted R (x ∷ l) = ((y : ℕ) → Listed l y → R x y) × Sorted R l

pub sorted-append : (R : ℕ → ℕ → Type 0) (l k : List ℕ) → Sorted R l → Sorted R k → ((x y : ℕ) → Listed l x → Listed k y → R x y)
    → Sorted R (l ++ k)
sorted-append R [] k p q h = q
sorted-append R (x ∷ l) k p q h = (
  λ y m. ⊎_elim (λ a. p.0 y a) (λ b. h x y (inl refl) b) ((listed-append l k y).to m),
  sorted-append R l k p.1 q (λ y z a b. h y z (inr a) b),
)

pub sorted-map : (R Q : ℕ → ℕ → Type 0) (f : ℕ → ℕ) (l : List ℕ) → ((x y : ℕ) → Listed l x → Listed l y → R x y → Q (f x) (f y))
    → Sorted R l → Sorted Q (map f l)
sorted-map R Q f [] h p = tt
sorted-map R Q f (x ∷ l) h p = (
  λ y m.
      let r = listed-of-map f l y m in
      subst (λ (z : ℕ). Q (f x) z) (sym r.2) (h x r.0 (inl refl) (inr r.1) (p.0 r.0 r.1)),
  sorted-map R Q f l (λ y z a b. h y z (inr a) (inr b)) p.1,
)

pub sorted-change : (R Q : ℕ → ℕ → Type 0) (l : List ℕ) → ((x y : ℕ) → Listed l x → Listed l y → R x y → Q x y) → Sorted R l → Sorted Q l
sorted-change R Q [] h p = tt
sorted-change R Q (x ∷ l) h p =
    (λ y m. h x y (inl refl) (inr m) (p.0 y m), sorted-change R Q l (λ y z a b. h y z (inr a) (inr b)) p.1)

pub sorted-only : (R : ℕ → ℕ → Type 0) (t : ℕ → Bool) (l : List ℕ) → Sorted R l → Sorted R (only t l)
sorted-only R t [] p = tt
sorted-only R t (x ∷ l) p =
    let ih = sorted-only R t l p.1 in
    by_test (t x) (λ e. rw e (λ y m. p.0 y ((listed-only t l y).to m).0, ih)) (λ e. rw e ih)

pub sorted-ordered : (l : List ℕ) → Sorted Before l → Ordered l
sorted-ordered [] p = tt
sorted-ordered (x ∷ l) p = (p.0, sorted-ordered l p.1)

pub ordered-sorted : (l : List ℕ) → Ordered l → Sorted Before l
ordered-sorted [] o = tt
ordered-sorted (x ∷ l) o = (o.0, ordered-sorted l o.1)

-- ---- a list in order is settled by what stands in it

pub not-before-self : (x : ℕ) → Before x x → ⊥
unfolding Before
not-before-self x b = ⊎_elim (λ h. omega arith) (λ p. let h = p.1 in omega arith) b

pub before-one-way : (x y : ℕ) → Before x y → Before y x → ⊥
unfolding Before
before-one-way x y a b =
    ⊎_elim (λ h. ⊎_elim (λ k. omega arith) (λ q. let e = q.0 in omega arith) b)
    (λ p. let e = p.0 in let g = p.1 in ⊎_elim (λ k. omega arith) (λ q. let f = q.1 in omega arith) b) a

pub ordered_same : (l k : List ℕ) → Ordered l → Ordered k → ((x : ℕ) → Iff (Listed l x) (Listed k x)) → l ≡ k
ordered_same [] [] p q h = refl
ordered_same [] (y ∷ k) p q h = absurd ((h y).from (inl refl))
ordered_same (x ∷ l) [] p q h = absurd ((h x).to (inl refl))
ordered_same (x ∷ l) (y ∷ k) p q h =
    let e : x ≡ y =
    ⊎_elim (λ e. e)
    (λ m. ⊎_elim (λ e. sym e) (λ n. absurd (before-one-way x y (p.0 y n) (q.0 x m))) ((h y).from (inl refl)))
    ((h x).to (inl refl)) in
    let rest : (z : ℕ) → Iff (Listed l z) (Listed k z) = λ z. record {
      to = λ m. ⊎_elim (λ g. absurd (not-before-self x (subst (λ (w : ℕ). Before x w) (g ∙ sym e) (p.0 z m)))) (λ n. n) ((h z).to (inr m));
      from = λ m. ⊎_elim (λ g. absurd (not-before-self y (subst (λ (w : ℕ). Before y w) (g ∙ e) (q.0 z m)))) (λ n. n) ((h z).from (inr m));
    } in
    rw (e, ordered_same l k p.1 q.1 rest)
