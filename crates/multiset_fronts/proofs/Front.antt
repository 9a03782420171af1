-- The lowest of a list of sets, by any order that can be decided, kept one by one from the list's front.
-- Assumes nothing.
use mathlib.Core.Path.{◌≡◌, refl, sym, ap, subst}
use mathlib.Core.Bool.{Bool, true}
use mathlib.Core.List.{List, [], ◌∷◌, ◌++◌, map}
use mathlib.Core.Logic.{◌⊎◌, inl, inr, ⊎_elim}
use Prim.Native.Nat.{ℕ}
use Rattle.vertex_set.specs.Set.{Iff}
use Rattle.vertex_set.specs.Order.{Listed, Before}
use Rattle.vertex_set.proofs.Sorted.{listed-append, listed-map, listed-of-map, only, listed-only, sorted-append, sorted-map, sorted-only}
use Rattle.multiset_fronts.specs.Inner.{Front}

module _ (le : ℕ → ℕ → Type 0) (refl-le : (x : ℕ) → le x x) (trans_le : (x y z : ℕ) → le x y → le y z → le x z) where
  one : (x y : ℕ) → Listed (x ∷ []) y → y ≡ x
  one x y (inl e) = e
  one x y (inr h) = absurd h

  module _ (p acc : List ℕ) (x : ℕ) (f : Front le p acc) (later : (y : ℕ) → Listed p y → Before y x) where
    -- some kept one is at most x: nothing changes
    pub front_same : (a : ℕ) → Listed acc a → le a x → Front le (p ++ (x ∷ [])) acc
    front_same a i h =
        record {
          of = λ y k. (listed-append p (x ∷ []) y).from (inl (f.of y k));
          least = λ b y k l q. ⊎_elim (λ o. f.least b y k o q)
              (λ e. let z = one x y e in
              inr (
                subst (Before b) (sym z) (later b (f.of b k)),
                subst (le b) (sym z) (⊎_elim (λ s. subst (λ (w : ℕ). le w x) (sym s) h) (λ s. trans_le b a x s.1 h)
                    (f.least b a k (f.of a i) (trans_le a x b h (subst (λ (w : ℕ). le w b) z q)))),
              ))
              ((listed-append p (x ∷ []) y).to l);
          cover = λ y l. ⊎_elim (f.cover y) (λ e. (a, i, subst (le a) (sym (one x y e)) h)) ((listed-append p (x ∷ []) y).to l);
          ordered = f.ordered;
        }

    module _ (keep : ℕ → Bool) (dec : (y : ℕ) → Iff (keep y ≡ true) (le x y → ⊥)) (or : (y : ℕ) → le x y ⊎ (le x y → ⊥)) where
      kept : (y : ℕ) → Listed (only keep acc ++ (x ∷ [])) y → (Listed acc y × (le x y → ⊥)) ⊎ (y ≡ x)
      kept y l = ⊎_elim (λ k. let q = (listed-only keep acc y).to k in inl (q.0, (dec y).to q.1)) (λ e. inr (one x y e)) ((listed-append (only keep acc) (x ∷ []) y).to l)

      -- none is: x joins, and those above it go
      pub front-more : ((a : ℕ) → Listed acc a → le a x → ⊥) → Front le (p ++ (x ∷ [])) (only keep acc ++ (x ∷ []))
      front-more none =
          record {
            of = λ y l. (listed-append p (x ∷ []) y).from (⊎_elim (λ k. inl (f.of y k.0)) (λ e. inr (inl e)) (kept y l));
            least = λ b y k l q. ⊎_elim
                (λ o. ⊎_elim (λ u. f.least b y u.0 o q)
                (λ e. absurd (let c = f.cover y o in none c.0 c.1 (trans_le c.0 y x c.2 (subst (le y) e q)))) (kept b k))
                (λ e. let z = one x y e in ⊎_elim (λ u. absurd (u.1 (subst (λ (w : ℕ). le w b) z q))) (λ s. inl (subst (λ (w : ℕ). b ≡ w) (sym z) s)) (kept b k))
                ((listed-append p (x ∷ []) y).to l);
            cover = λ y l. ⊎_elim
                (λ o. let c = f.cover y o in ⊎_elim
                (λ h. (x, (listed-append (only keep acc) (x ∷ []) x).from (inr (inl refl)), trans_le x c.0 y h c.2))
                (λ n. (c.0, (listed-append (only keep acc) (x ∷ []) c.0).from (inl ((listed-only keep acc c.0).from (c.1, (dec c.0).from n))), c.2))
                (or c.0))
                (λ e. (x, (listed-append (only keep acc) (x ∷ []) x).from (inr (inl refl)), subst (le x) (sym (one x y e)) (refl-le x)))
                ((listed-append p (x ∷ []) y).to l);
            ordered = sorted-append Before (only keep acc) (x ∷ []) (sorted-only Before keep acc f.ordered) ((λ y i. absurd i), tt)
                (λ a b i j. subst (Before a) (sym (one x b j)) (later a (f.of a ((listed-only keep acc a).to i).0)));
          }

-- where h keeps both orders, the images of the lowest are the lowest of the images
module _ (le le' : ℕ → ℕ → Type 0) (h : ℕ → ℕ) (p acc : List ℕ) (same : (x y : ℕ) → Listed p x → Listed p y → Iff (le x y) (le' (h x) (h y)))
    (before : (x y : ℕ) → Listed p x → Listed p y → Before x y → Before (h x) (h y)) (f : Front le p acc) where
  images-least : (x y : ℕ) → Listed acc x → Listed p y → le' (h y) (h x) → (h x ≡ h y) ⊎ (Before (h x) (h y) × le' (h x) (h y))
  images-least x y i j q =
      let o = f.of x i in
      ⊎_elim (λ e. inl (ap h e)) (λ k. inr (before x y o j k.0, (same x y o j).to k.1)) (f.least x y i j ((same y x j o).from q))

  pub front-map : Front le' (map h p) (map h acc)
  front-map =
      record {
        of = λ x i. let a = listed-of-map h acc x i in subst (Listed (map h p)) (sym a.2) (listed-map h p a.0 (f.of a.0 a.1));
        least = λ x y i j.
            let a = listed-of-map h acc x i in
            let b = listed-of-map h p y j in
            rw (a.2, b.2) (images-least a.0 b.0 a.1 b.1);
        cover = λ y j.
            let b = listed-of-map h p y j in
            let c = f.cover b.0 b.1 in
            (h c.0, listed-map h acc c.0 c.1, subst (le' (h c.0)) (sym b.2) ((same c.0 b.0 (f.of c.0 c.1) b.1).to c.2));
        ordered = sorted-map Before Before h acc (λ x y i j. before x y (f.of x i) (f.of y j)) f.ordered;
      }
