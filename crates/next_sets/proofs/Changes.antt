-- While the setup changes: the sets shown rise, there are no more of them than the initial vertices have subsets, and only count, vertices and graph matter.
-- Assumes nothing.
use mathlib.Core.Path.{◌≡◌, refl, sym, ap, subst}
use mathlib.Core.Bool.{false}
use mathlib.Core.List.{List, [], ◌∷◌, map}
use mathlib.Core.Logic.{inl, inr, ⊎_elim}
use Prim.Native.Nat.{ℕ, zero, suc, ◌^◌, ◌≤◌, ◌<◌}
use native.Mathlib.Omega.{arith}
use lib.Count.{ones}
use lib.ListN.{length, length-map, get_or}
use Rattle.vertex_set.specs.Set.{Within}
use Rattle.vertex_set.specs.Order.{Listed, Once, Before}
use Rattle.vertex_set.proofs.Cases.{same_or}
use Rattle.vertex_set.proofs.Digits.{below-own-power}
use Rattle.vertex_set.proofs.Lists.{once-le, once-map, ordered-once}
use Rattle.vertex_set.proofs.Sets.{same_set}
use Rattle.vertex_set.proofs.Sorted.{listed-of-map}
use Rattle.setup.specs.declared.Graph.{Graph}
use Rattle.setup.specs.declared.Vertex.{Vertex}
use Rattle.setup.specs.declared.Setup.{Setup}
use Rattle.setup.specs.Setup.{given, value_of, unused_vertex, Chosen}
use Rattle.families.specs.Inner.Masks.{Picked}
use Rattle.families.proofs.Masks.{gather, gather-lt, in-gather}
use Rattle.bases.specs.Base.{Derives, MinimalSet}
use Rattle.next_sets.specs.Next.{OfInitial}
use Rattle.questions.proofs.Contract.{fulfils-alike}
use Rattle.next_sets.specs.Answers.{Next, Shown, End, IsNext}
use Rattle.next_sets.specs.Walks.{Showing, KeepInitial, ShownRise, ShownEnd, DrawingAlone}
use Rattle.next_sets.proofs.Order.{before-trans}
use Rattle.next_sets.proofs.Walks.{told-right}

-- ---- what is shown rises

pub shown-rise : ShownRise
shown-rise target last [] [] h = (λ y i. absurd i, tt)
shown-rise target last [] (x ∷ l) h = absurd h
shown-rise target last (s ∷ moments) [] h = absurd h
shown-rise target last (s ∷ moments) (x ∷ l) h =
    let b = (told-right s target last (Shown x) h.0).after in
    let r = shown-rise target x moments l h.1 in
    (λ y i. ⊎_elim (λ e. subst (Before last) (sym e) b) (λ k. before-trans last x y b (r.0 y k)) i, r)

-- ---- and ends

-- the numbers below n
abbrev numbers : ℕ → List ℕ
numbers zero = []
numbers (suc n) = n ∷ numbers n

listed-numbers : (n k : ℕ) → k < n → Listed (numbers n) k
listed-numbers zero k l = absurd (omega arith)
listed-numbers (suc n) k l = ⊎_elim (λ e. inl e) (λ d. inr (listed-numbers n k (omega (arith, d)))) (same_or k n)

length-numbers : (n : ℕ) → length (numbers n) ≡ n
length-numbers zero = refl
length-numbers (suc n) = ap suc (length-numbers n)

-- different sets of the chosen vertices have different masks
module _ (c : ℕ) where
  part : (x y : ℕ) → Within x c → gather c c x ≡ gather c c y → Within x y
  part x y w e =
      record {
        each = λ v m.
            ((in-gather c c y v (below-own-power c)).to (subst (λ (g : ℕ). Picked c g v) e ((in-gather c c x v (below-own-power c)).from (m, w.each v m)))).0;
      }

  pub few-subsets : (l : List ℕ) → Once l → ((x : ℕ) → Listed l x → Within x c) → length l ≤ 2 ^ ones c
  few-subsets l o w =
      let once = once-map (gather c c) l (λ x y i j e. same_set x y (part x y (w x i) e) (part y x (w y j) (sym e))) o in
      let h = once-le (map (gather c c) l) (numbers (2 ^ ones c)) once
      (λ g i. let r = listed-of-map (gather c c) l g i in
      subst (Listed (numbers (2 ^ ones c))) (sym r.2) (listed-numbers (2 ^ ones c) (gather c c r.0) (gather-lt c c r.0 (below-own-power c)))) in
      let a = length-map l (gather c c) in
      let b = length-numbers (2 ^ ones c) in
      omega arith

shown-within : (target last initial : ℕ) (moments : List Setup) (l : List ℕ) → KeepInitial initial moments → Showing target last moments l
    → (x : ℕ) → Listed l x → Within x initial
shown-within target last initial [] [] k h x i = absurd i
shown-within target last initial [] (y ∷ l) k h x i = absurd h
shown-within target last initial (s ∷ moments) [] k h x i = absurd h
shown-within target last initial (s ∷ moments) (y ∷ l) k h x i =
    ⊎_elim (λ e. subst (λ (z : ℕ). Within z initial) (sym e) here) (shown-within target y initial moments l k.1 h.1 x) i
  where
    here : Within y initial
    here = record { each = λ v m. (k.0.each v).from ((told-right s target last (Shown y) h.0).is.is.chosen v m) }

pub shown-end : ShownEnd
shown-end target last initial moments l k h =
    few-subsets initial l (ordered-once l (shown-rise target last moments l h).1) (shown-within target last initial moments l k h)

-- ---- only vertices and graph matter

module _ (s t : Setup) (target : ℕ) (vs : s.vertices ≡ t.vertices) (g : s.graph ≡ t.graph) where
  chosen-too : (v : ℕ) → Chosen false s v → Chosen false t v
  chosen-too v c = subst (λ (l : List Vertex). given (value_of false (get_or l v unused_vertex)) ≡ 1) vs c

  pub initial-too : (x : ℕ) → OfInitial s x → OfInitial t x
  initial-too x i = record { each = λ v m. chosen-too v (i.each v m) }

  pub minimal-too : (x : ℕ) → MinimalSet false s s.graph target x → MinimalSet false t t.graph target x
  minimal-too x m =
      record {
        is = record { chosen = λ v k. chosen-too v (m.is.chosen v k); derives = subst (λ (h : Graph). Derives false h target x) g m.is.derives };
        minimal = λ y p d. m.minimal y p (subst (λ (h : Graph). Derives false h target y) (sym g) d);
      }

next-too : (s t : Setup) (target last : ℕ) → s.vertices ≡ t.vertices → s.graph ≡ t.graph → (a : Next) → IsNext s target last a → IsNext t target last a
next-too s t target last vs g (Shown x) n =
    record { is = minimal-too s t target vs g x n.is; after = n.after; first = λ y m b. n.first y (minimal-too t s target (sym vs) (sym g) y m) b }
next-too s t target last vs g End n = record { none = λ y m b. n.none y (minimal-too t s target (sym vs) (sym g) y m) b }

pub drawing-alone : DrawingAlone
drawing-alone s t target last o w u c vs g f =
    fulfils-alike _ _ _ _ _ _ _ _ _ (
      refl,
      record { to = λ k. u; from = λ k. w },
      (refl, record { to = λ l. omega arith; from = λ l. omega arith }, (refl, record { to = initial-too s t target vs g last; from = initial-too t s target (sym vs) (sym g) last }, tt)),
    ) (next-too s t target last vs g) (λ a. refl) o f
