-- A set's vertices one by one: the lowest of them, the set without one of them, and the list of them in rising order.
-- Assumes nothing.
use mathlib.Core.Path.{◌≡◌, refl, sym, ap, ◌∙◌, subst}
use mathlib.Core.Bool.{Bool}
use mathlib.Core.Logic.{inl, inr, ⊎_elim}
use mathlib.Core.List.{List, [], ◌∷◌, map}
use Prim.Native.Nat.{ℕ, zero, suc, ◌-◌, ◌*◌, ◌/◌, ◌%◌, ◌^◌, ◌≤◌, ◌<◌}
use native.Mathlib.Nat.{pow-suc, mod-lt}
use native.Mathlib.Omega.{arith}
use lib.ListN.{length, length-map}
use lib.Count.{ones, ones_step, count_trailing_zeros, under}
use lib.Bits.{bit_and, and_step}
use lib.Dec.{eqb}
use lib.Pow.{pow_pos}
use Rattle.vertex_set.specs.Set.{Member, Iff, Within}
use Rattle.vertex_set.specs.Order.{Listed}
use Rattle.vertex_set.proofs.Cases.{same_or}
use Rattle.vertex_set.proofs.Sorted.{listed-map, listed-of-map, only, only-map, only_same, Sorted, sorted-map}
use Rattle.vertex_set.proofs.Lists.{once-le, sorted-once}
use Rattle.vertex_set.proofs.Digits.{digit, below-own-power, digit-suc, digit-first}
use Rattle.vertex_set.proofs.Sets.{member_below, within-le, shifted_one}

-- ---- membership by halves

pub in-first : (s : ℕ) → Iff (Member s 0) (s % 2 ≡ 1)
unfolding Member
in-first s = record { to = λ m. sym (digit-first s) ∙ m; from = λ e. digit-first s ∙ e }

pub in-later : (s i : ℕ) → Iff (Member s (suc i)) (Member (s / 2) i)
unfolding Member
in-later s i = record { to = λ m. sym (digit-suc s i) ∙ m; from = λ m. digit-suc s i ∙ m }

-- ---- a set without one of its vertices

pub member-le : (i s : ℕ) → Member s i → 2 ^ i ≤ s
member-le zero s m = let e = (in-first s).to m in omega arith
member-le (suc i) s m =
    let h = member-le i (s / 2) ((in-later s i).to m) in
    let p = pow-suc 2 i in
    omega arith

pub removed-same : (i s : ℕ) → Member s i → Member (s - 2 ^ i) i → ⊥
removed-same zero s m n =
    let a = (in-first s).to m in
    let b = (in-first (s - 1)).to n in
    omega arith
removed-same (suc i) s m n =
    let a = (in-later s i).to m in
    let h = member-le i (s / 2) a in
    let p = pow-suc 2 i in
    let e : (s - 2 ^ suc i) / 2 ≡ s / 2 - 2 ^ i = omega arith in
    removed-same i (s / 2) a (rw e at ((in-later (s - 2 ^ suc i) i).to n))

pub removed-other : (i j s : ℕ) → Member s i → (j ≡ i → ⊥) → digit (s - 2 ^ i) j ≡ digit s j
removed-other zero zero s m n = absurd (n refl)
removed-other zero (suc j) s m n =
    let a = (in-first s).to m in
    let e : (s - 1) / 2 ≡ s / 2 = omega arith in
    rw (digit-suc (s - 1) j, digit-suc s j, e)
removed-other (suc i) zero s m n =
    let h = member-le i (s / 2) ((in-later s i).to m) in
    let p = pow-suc 2 i in
    rw (digit-first (s - 2 ^ suc i), digit-first s) (omega arith)
removed-other (suc i) (suc j) s m n =
    let a = (in-later s i).to m in
    let h = member-le i (s / 2) a in
    let p = pow-suc 2 i in
    let e : (s - 2 ^ suc i) / 2 ≡ s / 2 - 2 ^ i = omega arith in
    rw (digit-suc (s - 2 ^ suc i) j, digit-suc s j, e) (removed-other i j (s / 2) a (λ q. n (ap suc q)))

-- the members of the set without i
pub in-removed : (s i j : ℕ) → Member s i → Iff (Member (s - 2 ^ i) j) (Member s j × (j ≡ i → ⊥))
unfolding Member
in-removed s i j m =
    record {
      to = λ n. ⊎_elim
          (λ e. absurd (removed-same i s m (subst (λ (k : ℕ). Member (s - 2 ^ i) k) e n)))
          (λ o. (sym (removed-other i j s m o) ∙ n, o)) (same_or j i);
      from = λ p. removed-other i j s m p.1 ∙ p.0;
    }

pub removed-within : (s i : ℕ) → Member s i → Within (s - 2 ^ i) s
removed-within s i m = record { each = λ j n. ((in-removed s i j m).to n).0 }

-- ---- the lowest vertex

pub lowest-member : (k s : ℕ) → s < 2 ^ k → (s ≡ 0 → ⊥) → Member s (count_trailing_zeros k s)
unfolding count_trailing_zeros
lowest-member zero s h n = absurd (n (omega arith))
lowest-member (suc k) s h n =
    let p = pow-suc 2 k in
    ⊎_elim
    (λ odd. subst (λ (d : ℕ). Member s (under d (count_trailing_zeros k (s / 2)))) (sym odd) ((in-first s).from odd))
    (λ o.
    let even : s % 2 ≡ 0 = omega arith in
    subst (λ (d : ℕ). Member s (under d (count_trailing_zeros k (s / 2)))) (sym even)
    ((in-later s _).from (lowest-member k (s / 2) (omega arith) (λ z. n (omega arith)))))
    (same_or (s % 2) 1)

-- ---- the list of a set's vertices below k, in rising order

abbrev pub first : ℕ → List ℕ → List ℕ
first zero l = l
first (suc d) l = 0 ∷ l

unfoldable pub places : ℕ → ℕ → List ℕ
places zero s = []
places (suc k) s = first (s % 2) (map suc (places k (s / 2)))

pub places-odd : (k s : ℕ) → s % 2 ≡ 1 → places (suc k) s ≡ 0 ∷ map suc (places k (s / 2))
unfolding places
places-odd k s e = rw e

pub places-even : (k s : ℕ) → s % 2 ≡ 0 → places (suc k) s ≡ map suc (places k (s / 2))
unfolding places
places-even k s e = rw e

pub places-none : (k s : ℕ) → s ≡ 0 → places k s ≡ []
unfolding places
places-none zero s e = refl
places-none (suc k) s e =
    places-even k s (omega arith) ∙ ap (map suc) (places-none k (s / 2) (omega arith))

-- the lowest vertex comes first, and then those of the set without it
abbrev LowestFirst : ℕ → ℕ → Type 0
LowestFirst k s = places k s ≡ count_trailing_zeros k s ∷ places k (s - 2 ^ count_trailing_zeros k s)

lowest-odd : (k s : ℕ) → s % 2 ≡ 1 → LowestFirst (suc k) s
unfolding count_trailing_zeros
lowest-odd k s odd =
    let e : (s - 1) / 2 ≡ s / 2 = omega arith in
    rw (odd, places-odd k s odd, places-even k (s - 1) (omega arith), e)

lowest-even : (k s : ℕ) → s % 2 ≡ 0 → s / 2 < 2 ^ k → (s / 2 ≡ 0 → ⊥) → LowestFirst k (s / 2) → LowestFirst (suc k) s
unfolding count_trailing_zeros
lowest-even k s even l o ih =
    let t : ℕ = count_trailing_zeros k (s / 2) in
    let q = pow-suc 2 t in
    let m = member-le t (s / 2) (lowest-member k (s / 2) l o) in
    let e : (s - 2 ^ suc t) / 2 ≡ s / 2 - 2 ^ t = omega arith in
    rw (even, places-even k s even, places-even k (s - 2 ^ suc t) (omega arith), e) (ap (map suc) ih)

pub places-lowest : (k s : ℕ) → s < 2 ^ k → (s ≡ 0 → ⊥) → places k s ≡ count_trailing_zeros k s ∷ places k (s - 2 ^ count_trailing_zeros k s)
places-lowest zero s h n = absurd (n (omega arith))
places-lowest (suc k) s h n =
    let p = pow-suc 2 k in
    let l : s / 2 < 2 ^ k = omega arith in
    ⊎_elim (λ odd. lowest-odd k s odd)
    (λ o.
    let even : s % 2 ≡ 0 = omega arith in
    let z : s / 2 ≡ 0 → ⊥ = λ z. n (omega arith) in
    lowest-even k s even l z (places-lowest k (s / 2) l z))
    (same_or (s % 2) 1)

pub length-places : (k s : ℕ) → s < 2 ^ k → length (places k s) ≡ ones s
unfolding places ones
length-places zero s h = let e : s ≡ 0 = omega arith in rw e
length-places (suc k) s h =
    let p = pow-suc 2 k in
    let ih = length-places k (s / 2) (omega arith) in
    let e = ones_step s in
    let m = length-map (places k (s / 2)) suc in
    ⊎_elim (λ odd. rw (places-odd k s odd) (omega arith)) (λ o. rw (places-even k s (omega arith)) (omega arith)) (same_or (s % 2) 1)

pub listed-places : (k s i : ℕ) → Iff (Listed (places k s) i) (Member s i × (i < k))
unfolding places
listed-places zero s i = record { to = λ z. absurd z; from = λ p. let h = p.1 in absurd (omega arith) }
listed-places (suc k) s zero =
    record {
      to = λ h. ⊎_elim (λ odd. ((in-first s).from odd, omega arith))
          (λ o. absurd (none-suc (rw (places-even k s (omega arith)) at h))) (same_or (s % 2) 1);
      from = λ p. rw (places-odd k s ((in-first s).to p.0)) (inl refl);
    }
  where
    none-suc : Listed (map suc (places k (s / 2))) 0 → ⊥
    none-suc h = let r = listed-of-map suc (places k (s / 2)) 0 h in let e = r.2 in omega arith
listed-places (suc k) s (suc i) =
    let ih = listed-places k (s / 2) i in
    let back : Listed (map suc (places k (s / 2))) (suc i) → Member s (suc i) × (suc i < suc k) =
    λ h.
    let r = listed-of-map suc (places k (s / 2)) (suc i) h in
    let e : r.0 ≡ i = omega (arith, r.2) in
    let g = ih.to (subst (λ (j : ℕ). Listed (places k (s / 2)) j) e r.1) in
    ((in-later s i).from g.0, omega (arith, g.1)) in
    let there : Member s (suc i) × (suc i < suc k) → Listed (map suc (places k (s / 2))) (suc i) =
    λ p. listed-map suc (places k (s / 2)) i (ih.from ((in-later s i).to p.0, omega (arith, p.1))) in
    record {
      to = λ h. ⊎_elim (λ odd. ⊎_elim (λ e. absurd (omega (arith, e))) back (rw (places-odd k s odd) at h))
          (λ o. back (rw (places-even k s (omega arith)) at h)) (same_or (s % 2) 1);
      from = λ p. ⊎_elim (λ odd. rw (places-odd k s odd) (inr (there p)))
          (λ o. rw (places-even k s (omega arith)) (there p)) (same_or (s % 2) 1);
    }

pub sorted-places : (k s : ℕ) → Sorted ◌<◌ (places k s)
unfolding places
sorted-places zero s = tt
sorted-places (suc k) s =
    let rest = sorted-map ◌<◌ ◌<◌ suc (places k (s / 2)) (λ x y a b h. omega arith) (sorted-places k (s / 2)) in
    ⊎_elim
    (λ odd. rw (places-odd k s odd) (λ y m. let r = listed-of-map suc (places k (s / 2)) y m in omega (arith, r.2), rest))
    (λ o. rw (places-even k s (omega arith)) rest)
    (same_or (s % 2) 1)

-- a subset has at most as many vertices
pub ones-within : (a b : ℕ) → Within a b → ones a ≤ ones b
ones-within a b w =
    let l = within-le a b w in
    let h = below-own-power b in
    let m = once-le (places b a) (places b b) (sorted-once (places b a) (sorted-places b a))
    (λ i k. let p = (listed-places b a i).to k in (listed-places b b i).from (w.each i p.0, p.1)) in
    let x = length-places b a (omega arith) in
    let y = length-places b b h in
    omega arith

-- ---- the places of two sets' common part

-- The test for a vertex of s.
abbrev pub is_in : ℕ → ℕ → Bool
is_in s i = eqb (digit s i) 1

is_in-suc : (s i : ℕ) → is_in s (suc i) ≡ is_in (s / 2) i
is_in-suc s i = rw (digit-suc s i)

is_in-zero : (s d : ℕ) → s % 2 ≡ d → is_in s 0 ≡ eqb d 1
is_in-zero s d e = rw (digit-first s, e)

pub places-and : (k a b : ℕ) → places k (bit_and a b) ≡ only (is_in b) (places k a)
unfolding places
places-and zero a b = refl
places-and (suc k) a b =
    let st = and_step a b in
    let x : a % 2 < 2 = mod-lt a (omega arith) in
    let half : bit_and a b / 2 ≡ bit_and (a / 2) (b / 2) = omega arith in
    let rest : map suc (places k (bit_and (a / 2) (b / 2))) ≡ only (is_in b) (map suc (places k (a / 2))) =
    ap (map suc) (places-and k (a / 2) (b / 2) ∙ only_same _ _ (places k (a / 2)) (λ i m. sym (is_in-suc b i)))
    ∙ sym (only-map (is_in b) suc (places k (a / 2))) in
    ⊎_elim
    (λ odd. ⊎_elim
    (λ (odd-b : b % 2 ≡ 1). rw (places-odd k a odd, places-odd k (bit_and a b) (omega arith), half, is_in-zero b 1 odd-b) (ap (λ (l : List ℕ). 0 ∷ l) rest))
    (λ o. let even-b : b % 2 ≡ 0 = omega arith in
    rw (places-odd k a odd, places-even k (bit_and a b) (omega arith), half, is_in-zero b 0 even-b) rest)
    (same_or (b % 2) 1))
    (λ o. rw (places-even k a (omega arith), places-even k (bit_and a b) (omega arith), half) rest)
    (same_or (a % 2) 1)

-- ---- a loop over a word's members, lowest first

-- What a turn of such a loop finds and leaves, as the machine has it.
pub record Lowest (s : ℕ) : Type 0 where
  pub member : Member s (count_trailing_zeros 64 s)
  pub below : count_trailing_zeros 64 s < 64
  pub power : (1 * 2 ^ count_trailing_zeros 64 s) % 2 ^ 64 ≡ 2 ^ count_trailing_zeros 64 s
  pub positive : 0 < 2 ^ count_trailing_zeros 64 s
  pub le : 2 ^ count_trailing_zeros 64 s ≤ s
  pub count : ones s ≡ suc (ones (s - 2 ^ count_trailing_zeros 64 s))
  pub list : places 64 s ≡ count_trailing_zeros 64 s ∷ places 64 (s - 2 ^ count_trailing_zeros 64 s)

pub lowest : (s : ℕ) → s < 2 ^ 64 → (s ≡ 0 → ⊥) → Lowest s
lowest s h n =
    let m = lowest-member 64 s h n in
    let b = member_below 64 s (count_trailing_zeros 64 s) h m in
    let l = places-lowest 64 s h n in
    let less : s - 2 ^ count_trailing_zeros 64 s < 2 ^ 64 = omega arith in
    record {
      member = m;
      below = b;
      power = shifted_one (count_trailing_zeros 64 s) b;
      positive = pow_pos (count_trailing_zeros 64 s);
      le = member-le (count_trailing_zeros 64 s) s m;
      count = sym (length-places 64 s h) ∙ ap length l ∙ ap suc (length-places 64 (s - 2 ^ count_trailing_zeros 64 s) less);
      list = l;
    }
