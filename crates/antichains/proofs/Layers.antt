-- All rows of one length and weight, each as a number: there are as many as there are ways to choose.
-- Assumes nothing.
use mathlib.Core.Path.{◌≡◌, refl, ap, ap₂, ◌∙◌}
use mathlib.Core.Bool.{Bool, true, false}
use mathlib.Core.List.{List, [], ◌∷◌, ◌++◌, map}
use mathlib.Core.Logic.{inl, inr}
use Prim.Native.Nat.{ℕ, zero, suc, ◌+◌, ◌*◌}
use native.Mathlib.Omega.{arith}
use lib.ListN.{length, length-map, length-append}
use Rattle.vertex_set.specs.Order.{Listed}
use Rattle.vertex_set.proofs.Sorted.{listed-append, listed-map}
use Rattle.antichains.specs.Antichains.{choose}
use Rattle.antichains.proofs.Chains.{weight}

-- The number of a row whose first bit is 0, and of one whose first bit is 1, by that of the rest.
abbrev even : ℕ → ℕ
even n = n * 2

abbrev odd : ℕ → ℕ
odd n = n * 2 + 1

-- A row's number.
pub number : List Bool → ℕ
number [] = 0
number (false ∷ w) = even (number w)
number (true ∷ w) = odd (number w)

pub number_same : (a b : List Bool) → length a ≡ length b → number a ≡ number b → a ≡ b
unfolding number
number_same [] [] l e = refl
number_same [] (y ∷ b) l e = absurd (omega arith)
number_same (x ∷ a) [] l e = absurd (omega arith)
number_same (false ∷ a) (false ∷ b) l e = ap (λ (w : List Bool). false ∷ w) (number_same a b (omega arith) (omega arith))
number_same (false ∷ a) (true ∷ b) l e = absurd (omega arith)
number_same (true ∷ a) (false ∷ b) l e = absurd (omega arith)
number_same (true ∷ a) (true ∷ b) l e = ap (λ (w : List Bool). true ∷ w) (number_same a b (omega arith) (omega arith))

-- The numbers of the rows of length n and weight r, by Pascal's rule.
pub layer : ℕ → ℕ → List ℕ
layer zero zero = 0 ∷ []
layer zero (suc r) = []
layer (suc n) zero = map even (layer n zero)
layer (suc n) (suc r) = map odd (layer n r) ++ map even (layer n (suc r))

choose-none : (n : ℕ) → choose n zero ≡ 1
unfolding choose
choose-none zero = refl
choose-none (suc n) = refl

pub length-layer : (n r : ℕ) → length (layer n r) ≡ choose n r
unfolding layer choose
length-layer zero zero = refl
length-layer zero (suc r) = refl
length-layer (suc n) zero = length-map (layer n zero) even ∙ length-layer n zero ∙ choose-none n
length-layer (suc n) (suc r) =
    length-append (map odd (layer n r)) (map even (layer n (suc r)))
    ∙ ap₂ ◌+◌ (length-map (layer n r) odd ∙ length-layer n r) (length-map (layer n (suc r)) even ∙ length-layer n (suc r))

layer-even : (n r m : ℕ) → Listed (layer n r) m → Listed (layer (suc n) r) (even m)
unfolding layer
layer-even n zero m h = listed-map even (layer n zero) m h
layer-even n (suc r) m h = (listed-append (map odd (layer n r)) (map even (layer n (suc r))) (even m)).from (inr (listed-map even (layer n (suc r)) m h))

pub in-layer : (w : List Bool) → Listed (layer (length w) (weight w)) (number w)
unfolding layer weight number
in-layer [] = inl refl
in-layer (false ∷ w) = layer-even (length w) (weight w) (number w) (in-layer w)
in-layer (true ∷ w) =
    let n : ℕ = length w in
    let r : ℕ = weight w in
    (listed-append (map odd (layer n r)) (map even (layer n (suc r))) (odd (number w))).from (inl (listed-map odd (layer n r) (number w) (in-layer w)))
