-- Lists all of whose elements have a property, or of which no two stand to each other in a relation; and sums over lists.
-- Assumes nothing.
use mathlib.Core.List.{List, [], ◌∷◌, ◌++◌, map}
use Rattle.sheet_format.specs.Rows.{Each, Apart}

module _ {A : Type 0} (P : A → Type 0) where
  pub each_append : (xs ys : List A) → Each P xs → Each P ys → Each P (xs ++ ys)
  each_append [] ys p q = q
  each_append (x ∷ xs) ys p q = (p.0, each_append xs ys p.1 q)

  pub each_right : (xs ys : List A) → Each P (xs ++ ys) → Each P ys
  each_right [] ys h = h
  each_right (x ∷ xs) ys h = each_right xs ys h.1

pub each_map : {A : Type 0} (P Q : A → Type 0) → ((x : A) → P x → Q x) → (xs : List A) → Each P xs → Each Q xs
each_map P Q f [] h = tt
each_map P Q f (x ∷ xs) h = (f x h.0, each_map P Q f xs h.1)

pub each-image : {A B : Type 0} (P : B → Type 0) (f : A → B) (xs : List A) → Each (λ x. P (f x)) xs → Each P (map f xs)
each-image P f [] h = tt
each-image P f (x ∷ xs) h = (h.0, each-image P f xs h.1)

module _ {A : Type 0} (R : A → A → Type 0) where
  -- What stands in front of y is apart from it.
  pub apart-at : (xs : List A) (y : A) (ys : List A) → Apart R (xs ++ (y ∷ ys)) → Each (λ x. R x y → ⊥) xs
  apart-at [] y ys h = tt
  apart-at (x ∷ xs) y ys h = ((each_right (λ z. R x z → ⊥) xs (y ∷ ys) h.0).0, apart-at xs y ys h.1)

  pub apart_more : (xs : List A) (y : A) → Apart R xs → Each (λ x. R x y → ⊥) xs → Apart R (xs ++ (y ∷ []))
  apart_more [] y h n = (tt, tt)
  apart_more (x ∷ xs) y h n = (each_append (λ z. R x z → ⊥) xs (y ∷ []) h.0 (n.0, tt), apart_more xs y h.1 n.1)
