-- Sperner's theorem: each set of an antichain has its own chain, and each chain its own row in the middle layer.
-- Assumes nothing.
use mathlib.Core.Path.{◌≡◌, sym, ap, ◌∙◌, subst, subst₂}
use mathlib.Core.Bool.{Bool, false}
use mathlib.Core.List.{List, [], ◌∷◌, map}
use mathlib.Core.Logic.{⊎_elim}
use Prim.Native.Nat.{ℕ, suc, ◌/◌, ◌≤◌}
use native.Mathlib.Omega.{arith}
use borrow.Author.Tests.{eqb-true, eq-eqb}
use lib.ListN.{length, get_or, length-map}
use Rattle.vertex_set.specs.Set.{Member, Within}
use Rattle.vertex_set.specs.Order.{Listed}
use Rattle.vertex_set.proofs.Cases.{less-or}
use Rattle.vertex_set.proofs.Digits.{digit, below-own-power}
use Rattle.vertex_set.proofs.Sets.{member_below}
use Rattle.vertex_set.proofs.Places.{places, length-places, listed-places, is_in}
use Rattle.antichains.specs.Antichains.{choose, Antichain, Sperner}
use Rattle.antichains.proofs.Pigeons.{pigeons}
use Rattle.antichains.proofs.Chains.{gap, foot, nested, middle}
use Rattle.antichains.proofs.Layers.{number, number_same, layer, length-layer, in-layer}

-- The bits of the set x at the places ps.
bits : List ℕ → ℕ → List Bool
bits ps x = map (is_in x) ps

length-bits : (ps : List ℕ) (x : ℕ) → length (bits ps x) ≡ length ps
unfolding bits
length-bits ps x = length-map ps (is_in x)

bit-of : (ps : List ℕ) (i : ℕ) → Listed ps i → (j : ℕ) × ((x : ℕ) → get_or (bits ps x) j false ≡ is_in x i)
unfolding bits
bit-of [] i h = absurd h
bit-of (p ∷ ps) i h = ⊎_elim (λ e. (0, λ x. ap (is_in x) (sym e))) (λ k. let r = bit-of ps i k in (suc r.0, r.1)) h

-- The number of the row in the middle of the chain of x.
label : List ℕ → ℕ → ℕ
label ps x = number (middle (bits ps x)).row

label-in : (ps : List ℕ) (x : ℕ) → Listed (layer (length ps) (length ps / 2)) (label ps x)
unfolding label
label-in ps x =
    let c = middle (bits ps x) in
    let e = length-bits ps x in
    subst₂ (λ (n r : ℕ). Listed (layer n r) (label ps x)) (c.long ∙ e) (c.weighs ∙ ap (λ (n : ℕ). n / 2) e) (in-layer c.row)

-- one label, one chain
label-foot : (ps : List ℕ) (a b : ℕ) → label ps a ≡ label ps b → foot (bits ps a) ≡ foot (bits ps b)
unfolding label
label-foot ps a b e =
    let c = middle (bits ps a) in
    let d = middle (bits ps b) in
    sym c.same ∙ ap foot (number_same c.row d.row (c.long ∙ length-bits ps a ∙ sym (length-bits ps b) ∙ sym d.long) e) ∙ d.same

-- All members of x are among the places ps.
abbrev At : List ℕ → ℕ → Type 0
At ps x = (i : ℕ) → Member x i → Listed ps i

-- in one chain, the set with more unmatched places lies within the other
chained : (ps : List ℕ) (a b : ℕ) → At ps b → foot (bits ps a) ≡ foot (bits ps b) → gap (bits ps a) ≤ gap (bits ps b) → Within b a
unfolding Member
chained ps a b at e l =
    record {
      each = λ i m.
          let p = bit-of ps i (at i m) in
          eqb-true (digit a i) 1
          (sym (p.1 a) ∙ nested (bits ps a) (bits ps b) (length-bits ps a ∙ sym (length-bits ps b)) e l p.0 (p.1 b ∙ eq-eqb (digit b i) 1 m));
    }

sperner-at : (ps l : List ℕ) → ((x : ℕ) → Listed l x → At ps x) → Antichain l → length l ≤ choose (length ps) (length ps / 2)
sperner-at ps l f c =
    subst (λ (k : ℕ). length l ≤ k) (length-layer (length ps) (length ps / 2))
    (pigeons (label ps) l (layer (length ps) (length ps / 2)) c.once one (λ x h. label-in ps x))
  where
    one : (a b : ℕ) → Listed l a → Listed l b → label ps a ≡ label ps b → a ≡ b
    one a b p q e =
        let d = label-foot ps a b e in
        ⊎_elim (λ k. c.apart a b p q (chained ps b a (f a p) (sym d) (omega arith))) (λ k. sym (c.apart b a q p (chained ps a b (f b q) d k)))
        (less-or (gap (bits ps b)) (gap (bits ps a)))

pub sperner : Sperner
sperner t l f c =
    let h = below-own-power t in
    subst (λ (n : ℕ). length l ≤ choose n (n / 2)) (length-places t t h)
    (sperner-at (places t t) l (λ x m i k. let j = (f x m).each i k in (listed-places t t i).from (j, member_below t t i h j)) c)
