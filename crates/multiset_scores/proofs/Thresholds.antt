-- The values of all initial vertices are thresholds enough: at them keys compare as multisets do.
-- Assumes nothing.
use mathlib.Core.Path.{◌≡◌, refl, sym, ap, subst, ◌∙◌}
use mathlib.Core.List.{List}
use mathlib.Core.Logic.{◌⊎◌, inl, inr, ⊎_elim}
use Prim.Native.Nat.{ℕ, zero, suc, ◌+◌, ◌-◌, ◌%◌, ◌^◌, ◌≤◌, ◌<◌}
use native.Mathlib.Omega.{arith}
use lib.Count.{ones}
use lib.Dec.{eqb}
use lib.ListN.{length, get_or, take, drop, take-append-drop, length-drop}
use lib.Seq.{take_all}
use Rattle.vertex_set.specs.Set.{Member, Within, Iff}
use Rattle.vertex_set.specs.Order.{Listed, sum_over}
use Rattle.vertex_set.proofs.Cases.{by_test, less-or, same_or}
use Rattle.vertex_set.proofs.Decisions.{decide-eqb, and_parts, and_both}
use Rattle.vertex_set.proofs.Digits.{digit}
use Rattle.vertex_set.proofs.Sets.{member_below, in_one, ones-below-more}
use Rattle.vertex_set.proofs.Sorted.{listed-append}
use Rattle.vertex_set.proofs.Sums.{sum-removed, sum-none}
use Rattle.vertex_set.proofs.Lists.{listed_at}
use Rattle.families.specs.Inner.Family.{masks}
use Rattle.families.specs.Inner.Masks.{place_among, Picked, SetOfMask}
use Rattle.families.proofs.Exact.{place-lt}
use Rattle.families.proofs.Masks.{spread, set-of, set-within}
use Rattle.sums.specs.Inner.Sums.{WeightsOf}
use Rattle.sums.proofs.Weights.{at_none, at-removed}
use Rattle.multisets.specs.Multisets.{values_below, values_over}
use Rattle.multisets.proofs.Pairs.{fewer-pairing, pairing-fewer}
use Rattle.multisets.proofs.Meaning.{fewer-at}
use Rattle.multiset_keys.specs.Inner.{Columns, count_key_of}
use Rattle.multiset_keys.proofs.Sums.{keys-compare}
use Rattle.multiset_fronts.specs.Inner.{KeysLe}
use Rattle.multiset_scores.specs.Inner.{ValuesLe}

-- ---- different chosen vertices have different ranks

place-grows : (c v k : ℕ) → place_among c v ≤ place_among c (v + k)
unfolding place_among
place-grows c v zero = let e : v + 0 ≡ v = omega arith in rw e (omega arith)
place-grows c v (suc k) =
    let e : v + suc k ≡ suc (v + k) = omega arith in
    let r = place-grows c v k in
    let o = ones-below-more c (v + k) in
    rw e (omega arith)

place-less : (c u v : ℕ) → Member c u → u < v → place_among c u < place_among c v
unfolding place_among Member
place-less c u v m l =
    let e : suc u + (v - suc u) ≡ v = omega arith in
    let g = place-grows c (suc u) (v - suc u) in
    let h : ones (c % 2 ^ suc u) ≤ ones (c % 2 ^ v) = rw e at g in
    let o = ones-below-more c u in omega (arith, m)

place-apart : (c u v : ℕ) → Member c u → Member c v → place_among c u ≡ place_among c v → u ≡ v
place-apart c u v m n e =
    ⊎_elim (λ l. absurd (let k = place-less c u v m l in omega arith))
    (λ l. ⊎_elim (λ q. q) (λ d. absurd (let k = place-less c v u n (omega (arith, d)) in omega arith)) (same_or u v))
    (less-or u v)

-- ---- each initial vertex's value is a threshold

one-mask : (c v : ℕ) → Member c v → SetOfMask c (2 ^ place_among c v) (2 ^ v)
unfolding Picked
one-mask c v m =
    record {
      each = λ u. record {
        to = λ k. let e = (in_one v u).to k in
            (subst (Member c) (sym e) m, (in_one (place_among c v) (place_among c u)).from (ap (place_among c) e));
        from = λ p. (in_one v u).from (place-apart c u v p.0 m ((in_one (place_among c v) (place_among c u)).to p.1));
      };
    }

sum_one : (value : ℕ → ℕ) (v : ℕ) → v < 64 → sum_over value (2 ^ v) ≡ value v
unfolding sum_over
sum_one value v l =
    let r = sum-removed value 64 (2 ^ v) v ((in_one v v).from refl) l in
    let z = sum-none value 64 (2 ^ v - 2 ^ v) (omega arith) in
    r ∙ ap (λ (k : ℕ). k + value v) z ∙ omega arith

module _ (initial : ℕ) (value : ℕ → ℕ) (ws : List ℕ) (w : WeightsOf initial value ws) (few : ones initial ≤ 14) (word : initial < 2 ^ 64) where
  pub threshold : (v : ℕ) → Member initial v → Listed ws (value v)
  threshold v m = subst (Listed ws) at (listed_at ws (place_among initial v) (let k = place-lt initial v m in let l = w.long in omega arith))
    where
      at : get_or ws (place_among initial v) 0 ≡ value v
      at =
          let r : ℕ = place_among initial v in
          let a = at-removed ws r (2 ^ r) ((in_one r r).from refl) in
          let z = at_none ws (2 ^ r - 2 ^ r) (omega arith) in
          let b = w.sum (2 ^ r) (2 ^ v) (one-mask initial v m) in
          let o = sum_one value v (member_below 64 initial v word m) in
          omega arith

-- one of the first seven, or of the seven behind them
pub in_halves : (ws : List ℕ) → length ws ≡ 14 → (t : ℕ) → Listed ws t → Listed (take 7 ws) t ⊎ Listed (take 7 (drop 7 ws)) t
in_halves ws e t h =
    ⊎_elim (λ a. inl a) (λ b. inr (subst (λ (l : List ℕ). Listed l t) (sym (take_all 7 (drop 7 ws) short)) b))
    ((listed-append (take 7 ws) (drop 7 ws) t).to (subst (λ (l : List ℕ). Listed l t) (sym (take-append-drop 7 ws)) h))
  where
    short : length (drop 7 ws) ≤ 7
    short = let d = length-drop 7 ws in omega arith

-- ---- a value of a set's multiset is that of a vertex

value-of : (value : ℕ → ℕ) (x n z : ℕ) → Listed (values_below value x n) z → (v : ℕ) × Member x v × (z ≡ value v)
unfolding Member
value-of value x zero z h = absurd h
value-of value x (suc n) z h =
    let r = value-of value x n z in
    by_test (eqb (digit x n) 1)
    (λ e. ⊎_elim (λ q. (n, (decide-eqb (digit x n) 1).yes e, q)) r (rw e at h))
    (λ e. r (rw e at h))

pub value-listed : (value : ℕ → ℕ) (x z : ℕ) → Listed (values_over value x) z → (v : ℕ) × Member x v × (z ≡ value v)
unfolding values_over
value-listed value x z h = value-of value x 64 z h

-- ---- keys compare as multisets do

module _ (points low high first second : List ℕ) (a : Columns points low first) (b : Columns points high second) (initial : ℕ)
    (all : (v : ℕ) → Member initial v → Listed low (get_or points v 0) ⊎ Listed high (get_or points v 0)) where
  keys-values : (x y : ℕ) → Within x initial → KeysLe (count_key_of first) (count_key_of second) x y → ValuesLe points x y
  keys-values x y w h =
      let p = and_parts _ _ h in
      fewer-pairing (values_over (λ (v : ℕ). get_or points v 0) x) (values_over (λ (v : ℕ). get_or points v 0) y)
      (fewer-at (values_over (λ (v : ℕ). get_or points v 0) x) (values_over (λ (v : ℕ). get_or points v 0) y)
      (λ z m.
      let q = value-listed (λ (v : ℕ). get_or points v 0) x z m in
      ⊎_elim
      (λ i. (keys-compare points low first a x y).to p.0 z (subst (Listed low) (sym q.2) i))
      (λ i. (keys-compare points high second b x y).to p.1 z (subst (Listed high) (sym q.2) i))
      (all q.0 (w.each q.0 q.1)))).each

  values-keys : (x y : ℕ) → ValuesLe points x y → KeysLe (count_key_of first) (count_key_of second) x y
  values-keys x y h =
      let f = pairing-fewer (values_over (λ (v : ℕ). get_or points v 0) x) (values_over (λ (v : ℕ). get_or points v 0) y) h in
      and_both _ _ ((keys-compare points low first a x y).from (λ t i. f t)) ((keys-compare points high second b x y).from (λ t i. f t))

  -- so do the keys of masks, which tables give
  module _ (f g : ℕ → ℕ) (same_first : (m : ℕ) → m < masks → f m ≡ count_key_of first (spread 64 initial m))
      (same_second : (m : ℕ) → m < masks → g m ≡ count_key_of second (spread 64 initial m)) (word : initial < 2 ^ 64) where
    pub masks-values : (m k : ℕ) → m < masks → k < masks → Iff (KeysLe f g m k) (ValuesLe points (spread 64 initial m) (spread 64 initial k))
    masks-values m k l h =
        let w = set-within initial m (spread 64 initial m) (set-of initial m word) in
        rw (same_first m l, same_second m l, same_first k h, same_second k h)
        (record { to = keys-values (spread 64 initial m) (spread 64 initial k) w; from = values-keys (spread 64 initial m) (spread 64 initial k) })
