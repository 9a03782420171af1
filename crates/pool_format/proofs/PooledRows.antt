-- Within the bounds, and without a ninth colour, the pooled rows are valid.
-- Assumes nothing.
use mathlib.Core.Path.{◌≡◌, refl, sym, ap, ◌∙◌, subst}
use mathlib.Core.List.Memᴰ
use mathlib.Core.List.{List, [], ◌∷◌, ◌++◌, map}
use mathlib.Core.Logic.{inl, inr, ⊎_elim}
use Prim.Native.Nat.{◌≤◌}
use native.Mathlib.Omega.{arith}
use lib.ListN.{length-append}
use Rattle.vertex_set.proofs.Cases.{false-true}
use Rattle.sheet_format.specs.Rows.{ItemRow, EdgeRow, Doc, Each, Apart, Known, SameName, SameEdge, ValidItem, ValidEdge, Valid}
use Rattle.sheet_format.specs.Questions.{is_known}
use Rattle.sheet_format.proofs.Lists.{each_append, each_right, each_map, each-image}
use Rattle.vertex_set.proofs.Decisions.{yes_of}
use Rattle.sheet_format.proofs.Tests.{known-decided}
use Rattle.sheet_format.proofs.Question12Lists.{In, each_of, of-each, apart-append}
use Rattle.pool_format.specs.Rows.{remaining, recoloured, pooled}
use Rattle.pool_format.specs.Meaning.{PooledValid}
use Rattle.pool_format.proofs.Colours.{uses-of}
use Rattle.pool_format.proofs.Recolouring.{in-remaining, apart-remaining, known-first, known-second, re-from, re-to, re-colour, pooled_colour, colour-once, colour-new}
use Rattle.sheet_format.proofs.Lengths.{rows_short}

-- ---- lists of images

-- an image of a list has the images of its elements
pub in_image : {A B : Type 0} (f : A → B) (xs : List A) (x : A) → In x xs → In (f x) (map f xs)
in_image f [] x m = absurd (Memᴰ.not-nil m)
in_image f (y ∷ ys) x m =
    ⊎_elim (λ q. Memᴰ.head (ap f q)) (λ k. Memᴰ.tail (in_image f ys x k)) (Memᴰ.cases_cons m)

-- and no others
pub image-of : {A B : Type 0} (f : A → B) (xs : List A) (y : B) → In y (map f xs) → (x : A) × In x xs × (y ≡ f x)
image-of f [] y m = absurd (Memᴰ.not-nil m)
image-of f (z ∷ zs) y m =
    ⊎_elim (λ q. (z, Memᴰ.head refl, q)) (λ k. let h = image-of f zs y k in (h.0, Memᴰ.tail h.1, h.2)) (Memᴰ.cases_cons m)

-- images of elements that are not alike
apart-image : {A B : Type 0} (R : A → A → Type 0) (S : B → B → Type 0) (f : A → B) (xs : List A)
    → ((x y : A) → In x xs → In y xs → S (f x) (f y) → R x y) → Apart R xs → Apart S (map f xs)
apart-image R S f [] h p = tt
apart-image R S f (x ∷ xs) h p = (
  each-image (λ y. S (f x) y → ⊥) f xs (each_of (λ y. S (f x) (f y) → ⊥) xs (λ y m s.
      of-each (λ z. R x z → ⊥) xs p.0 y m (h x y (Memᴰ.head refl) (Memᴰ.tail m) s))),
  apart-image R S f xs (λ a b m k s. h a b (Memᴰ.tail m) (Memᴰ.tail k) s) p.1,
)

-- ---- valid rows

module _ (d e : Doc) (v : Valid d) (w : Valid e) where
  items-valid : Each ValidItem (d.items ++ remaining d.items e.items)
  items-valid =
      each_append ValidItem d.items (remaining d.items e.items) v.items
      (each_of ValidItem (remaining d.items e.items) (λ y m. of-each ValidItem e.items w.items y (in-remaining d.items e.items y m).0))

  names_apart : Apart SameName (d.items ++ remaining d.items e.items)
  names_apart =
      apart-append SameName d.items (remaining d.items e.items) v.names (apart-remaining d.items e.items w.names)
      (λ x y m k s.
      let h = (in-remaining d.items e.items y k).1 in
      false-true (sym h ∙ yes_of (is_known d.items y.name) (known-decided d.items y.name) (named d.items x y m s)))
    where
      named : (zs : List ItemRow) (x y : ItemRow) → In x zs → SameName x y → Known zs y.name
      named [] x y m s = absurd (Memᴰ.not-nil m)
      named (z ∷ zs) x y m s =
          ⊎_elim (λ q. inl (subst (λ (u : ItemRow). u.name ≡ y.name) q s)) (λ k. inr (named zs x y k s)) (Memᴰ.cases_cons m)

  -- a row of the second sheet that is the same as another of it, once recoloured, was the same before
  once : (x y : EdgeRow) → In x e.edges → In y e.edges → SameEdge (recoloured d e x) (recoloured d e y) → SameEdge x y
  unfolding recoloured
  once x y m k s =
      let u = uses-of e.edges x m in
      let t = uses-of e.edges y k in
      let same : pooled_colour d e x.to x.colour ≡ pooled_colour d e x.to y.colour = sym (re-colour d e x) ∙ s.2 ∙ re-colour d e y ∙ rw s.1 in
      (s.0, s.1, colour-once d e v w x.to x.colour y.colour u (rw s.1 t) same)

  across : (x y : EdgeRow) → In x d.edges → In y (map (recoloured d e) e.edges) → SameEdge x y → ⊥
  across x y m k s =
      let z = image-of (recoloured d e) e.edges y k in
      let q = z.2 in
      colour-new d e v w x z.0 m z.1
      (s.1 ∙ ap (λ (a : EdgeRow). a.to) q ∙ re-to d e z.0)
      (s.2 ∙ ap (λ (a : EdgeRow). a.colour) q ∙ re-colour d e z.0)

  edges-apart : Apart SameEdge (d.edges ++ map (recoloured d e) e.edges)
  edges-apart =
      apart-append SameEdge d.edges (map (recoloured d e) e.edges) v.rows
      (apart-image SameEdge SameEdge (recoloured d e) e.edges once w.rows) across

  edges-valid : Each (λ (x : EdgeRow). x.colour ≤ 7) (d.edges ++ map (recoloured d e) e.edges)
      → Each (ValidEdge (d.items ++ remaining d.items e.items)) (d.edges ++ map (recoloured d e) e.edges)
  edges-valid small =
      each_append (ValidEdge items) d.edges (map (recoloured d e) e.edges)
      (each_map (ValidEdge d.items) (ValidEdge items) (λ x h.
      record { from = known-first d.items rest x.from h.from; to = known-first d.items rest x.to h.to; colour = h.colour }) d.edges v.edges)
      (each_of (ValidEdge items) (map (recoloured d e) e.edges) (λ y m.
      let z = image-of (recoloured d e) e.edges y m in
      let h = of-each (ValidEdge e.items) e.edges w.edges z.0 z.1 in
      let f : z.0.from ≡ y.from = sym (ap (λ (a : EdgeRow). a.from) z.2 ∙ re-from d e z.0) in
      let t : z.0.to ≡ y.to = sym (ap (λ (a : EdgeRow). a.to) z.2 ∙ re-to d e z.0) in
      record {
        from = subst (Known items) f (known-second d.items e.items z.0.from h.from);
        to = subst (Known items) t (known-second d.items e.items z.0.to h.to);
        colour = of-each (λ (x : EdgeRow). x.colour ≤ 7) (map (recoloured d e) e.edges)
            (each_right (λ (x : EdgeRow). x.colour ≤ 7) d.edges (map (recoloured d e) e.edges) small) y m;
      }))
    where
      rest : List ItemRow
      rest = remaining d.items e.items

      items : List ItemRow
      items = d.items ++ rest

pub pooled-valid : PooledValid
unfolding pooled
pooled-valid d e v w agree fits =
    let edges = edges-valid d e v w fits.colours in
    let items = items-valid d e v w in
    let short = rows_short (pooled d e) items edges fits.most fits.starts fits.losses fits.many in
    let some = v.some in
    record {
      some = let l = length-append d.items (remaining d.items e.items) in omega arith;
      most = fits.most;
      items = items;
      names = names_apart d e v w;
      starts = fits.starts;
      losses = fits.losses;
      edges = edges;
      rows = edges-apart d e v w;
      many = fits.many;
      text = omega arith;
    }
