-- The rows of a pooled sheet: which items remain, and which colours the second sheet's rows get.
-- Assumes nothing.
use mathlib.Core.Path.{◌≡◌, refl, sym, ap, ◌∙◌, subst}
use mathlib.Core.List.Memᴰ
use mathlib.Core.List.{List, [], ◌∷◌, ◌++◌}
use mathlib.Core.Bool.{true, false, cond}
use mathlib.Core.Logic.{◌⊎◌, inl, inr, ⊎_elim}
use Prim.Native.Nat.{ℕ, ◌≤◌}
use Rattle.vertex_set.proofs.Cases.{by_test}
use Rattle.sheet_format.specs.Rows.{ItemRow, EdgeRow, Doc, Apart, Known, SameName, ValidEdge, Valid}
use Rattle.sheet_format.specs.Questions.{is_known}
use Rattle.vertex_set.proofs.Decisions.{yes_of}
use Rattle.sheet_format.proofs.Tests.{known-decided}
use Rattle.sheet_format.proofs.Question12Lists.{In, each_of, of-each}
use Rattle.pool_format.specs.Rows.{remaining, uses_colour, new_colour, recoloured}
use Rattle.pool_format.proofs.Colours.{uses-of, renames-lowest, new-once, few-colours}

-- ---- the remaining items

pub remaining-known : (xs : List ItemRow) (y : ItemRow) (ys : List ItemRow) → is_known xs y.name ≡ true → remaining xs (y ∷ ys) ≡ remaining xs ys
unfolding remaining
remaining-known xs y ys t = rw t

pub remaining-new : (xs : List ItemRow) (y : ItemRow) (ys : List ItemRow) → is_known xs y.name ≡ false → remaining xs (y ∷ ys) ≡ y ∷ remaining xs ys
unfolding remaining
remaining-new xs y ys t = rw t

module _ (xs : List ItemRow) where
  pub in-remaining : (ys : List ItemRow) (y : ItemRow) → In y (remaining xs ys) → In y ys × (is_known xs y.name ≡ false)
  unfolding remaining
  in-remaining [] y m = absurd (Memᴰ.not-nil m)
  in-remaining (z ∷ ys) y m =
      by_test (is_known xs z.name)
      (λ t. let h = in-remaining ys y (subst (In y) (remaining-known xs z ys t) m) in (Memᴰ.tail h.0, h.1))
      (λ t. ⊎_elim
      (λ q. (Memᴰ.head q, ap (λ (w : ItemRow). is_known xs w.name) q ∙ t))
      (λ k. let h = in-remaining ys y k in (Memᴰ.tail h.0, h.1))
      (Memᴰ.cases_cons (subst (In y) (remaining-new xs z ys t) m)))

  pub apart-remaining : (ys : List ItemRow) → Apart SameName ys → Apart SameName (remaining xs ys)
  unfolding remaining
  apart-remaining [] h = tt
  apart-remaining (y ∷ ys) h =
      by_test (is_known xs y.name)
      (λ t. subst (Apart SameName) (sym (remaining-known xs y ys t)) (apart-remaining ys h.1))
      (λ t. subst (Apart SameName) (sym (remaining-new xs y ys t)) (
        each_of (λ z. SameName y z → ⊥) (remaining xs ys) (λ z m. of-each (λ w. SameName y w → ⊥) ys h.0 z (in-remaining ys z m).0),
        apart-remaining ys h.1,
      ))

  -- ---- known names

  pub known-first : (zs : List ItemRow) (n : List ℕ) → Known xs n → Known (xs ++ zs) n
  known-first zs n k = on xs k
    where
      on : (ws : List ItemRow) → Known ws n → Known (ws ++ zs) n
      on [] k = absurd k
      on (w ∷ ws) k = ⊎_elim (λ e. inl e) (λ h. inr (on ws h)) k

  known_behind : (zs : List ItemRow) (n : List ℕ) → Known zs n → Known (xs ++ zs) n
  known_behind zs n k = on xs
    where
      on : (ws : List ItemRow) → Known (ws ++ zs) n
      on [] = k
      on (w ∷ ws) = inr (on ws)

  known-remaining : (ys : List ItemRow) (n : List ℕ) → Known ys n → Known xs n ⊎ Known (remaining xs ys) n
  known-remaining [] n k = absurd k
  known-remaining (y ∷ ys) n k =
      by_test (is_known xs y.name)
      (λ t. ⊎_elim
      (λ e. inl (subst (Known xs) e ((known-decided xs y.name).yes t)))
      (λ h. ⊎_elim (λ a. inl a) (λ a. inr (subst (λ (zs : List ItemRow). Known zs n) (sym (remaining-known xs y ys t)) a)) (known-remaining ys n h))
      k)
      (λ t. ⊎_elim
      (λ e. inr (subst (λ (zs : List ItemRow). Known zs n) (sym (remaining-new xs y ys t)) (inl e)))
      (λ h. ⊎_elim (λ a. inl a) (λ a. inr (subst (λ (zs : List ItemRow). Known zs n) (sym (remaining-new xs y ys t)) (inr a))) (known-remaining ys n h))
      k)

  -- a name of the second sheet is one of the pooled sheet
  pub known-second : (ys : List ItemRow) (n : List ℕ) → Known ys n → Known (xs ++ remaining xs ys) n
  known-second ys n k =
      ⊎_elim (known-first (remaining xs ys) n) (known_behind (remaining xs ys) n) (known-remaining ys n k)

-- ---- the colours of the second sheet's rows

-- What the second sheet's colour c of the item n is in the pooled sheet.
unfoldable pub pooled_colour : Doc → Doc → List ℕ → ℕ → ℕ
pooled_colour d e n c = cond (is_known d.items n) (new_colour d.edges e.edges n c) c

pub re-from : (d e : Doc) (x : EdgeRow) → (recoloured d e x).from ≡ x.from
unfolding recoloured
re-from d e x = refl

pub re-to : (d e : Doc) (x : EdgeRow) → (recoloured d e x).to ≡ x.to
unfolding recoloured
re-to d e x = refl

pub re-colour : (d e : Doc) (x : EdgeRow) → (recoloured d e x).colour ≡ pooled_colour d e x.to x.colour
unfolding recoloured pooled_colour
re-colour d e x = refl

module _ (d e : Doc) (v : Valid d) (w : Valid e) where
  -- a row of the second sheet has one of the first eight colours
  small : (n : List ℕ) (c : ℕ) → uses_colour e.edges n c ≡ true → c ≤ 7
  small = few-colours e w

  -- an item's used colours stay apart
  pub colour-once : (n : List ℕ) (a b : ℕ) → uses_colour e.edges n a ≡ true → uses_colour e.edges n b ≡ true
      → pooled_colour d e n a ≡ pooled_colour d e n b → a ≡ b
  unfolding pooled_colour
  colour-once n a b p q h =
      by_test (is_known d.items n)
      (λ t. new-once d.edges e.edges n (few-colours d v n) a b (small n a p) (small n b q) p q (rw t at h))
      (λ t. rw t at h)

  -- and no edge of the first sheet has such a colour
  pub colour-new : (x y : EdgeRow) → In x d.edges → In y e.edges → x.to ≡ y.to → x.colour ≡ pooled_colour d e y.to y.colour → ⊥
  unfolding pooled_colour
  colour-new x y m k q h =
      let known = (of-each (ValidEdge d.items) d.edges v.edges x m).to in
      let t = yes_of (is_known d.items x.to) (known-decided d.items x.to) known in
      let u = uses-of e.edges y k in
      let g : x.colour ≡ new_colour d.edges e.edges y.to y.colour = h ∙ rw (← q, t) in
      (renames-lowest d.edges e.edges y.to (few-colours d v y.to) y.colour (small y.to y.colour u)).unused
      (rw (← g, ← q) (uses-of d.edges x m))
