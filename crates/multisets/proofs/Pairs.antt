-- A pairing exists exactly where no threshold has more values at or above it here than there.
-- Assumes nothing.
use mathlib.Core.Path.{◌≡◌, refl, sym, ap, ◌∙◌}
use mathlib.Core.Bool.{cond}
use mathlib.Core.List.{List, [], ◌∷◌, ◌++◌}
use mathlib.Core.Logic.{⊎_elim, inl, inr}
use Prim.Native.Nat.{ℕ, zero, suc, ◌+◌, ◌-◌, ◌≤◌, ◌<◌}
use native.Mathlib.Omega.{arith}
use lib.Dec.{leb}
use lib.ListN.{length, get_or, length-append}
use lib.Seq.{get_or-append_seam}
use Rattle.vertex_set.proofs.Cases.{by_test, less-or}
use Rattle.vertex_set.proofs.Decisions.{decide-leb}
use Rattle.multisets.specs.Multisets.{Pairing}
use Rattle.multisets.specs.Meaning.{is_high, at_least, Fewer}
use Rattle.multisets.proofs.Counts.{is-high, not-high, at-least-append, at-least-falls, gap, Taken, take-lowest, none-high}

rest-fewer : (x : ℕ) (m n : List ℕ) (r : Taken x n) → Fewer (x ∷ m) n → Fewer m (r.front ++ r.back)
rest-fewer x m n r f t =
    let whole : at_least n t ≡ at_least r.front t + (is_high t r.value + at_least r.back t) = ap (λ (q : List ℕ). at_least q t) r.is ∙ at-least-append r.front (r.value ∷ r.back) t in
    let part = at-least-append r.front r.back t in
    let ft = f t in
    ⊎_elim
    (λ k.  -- t is at most x
    let a = is-high t x k in let hv = r.high in let b = is-high t r.value (omega arith) in omega arith)
    (λ k. ⊎_elim
    (λ j.  -- above the value
    let a = not-high t x k in let b = not-high t r.value j in omega arith)
    (λ j.  -- between
    let a = not-high t x k in
    let b = is-high t r.value j in
    let e = gap n x r.value t r.lowest (omega arith) j in
    let fx = f x in
    let c = is-high x x (omega arith) in
    let d = at-least-falls m x t (omega arith) in
    omega arith)
    (less-or r.value t))
    (⊎_elim (λ a. inr a) (λ a. inl a) (less-or x t))

-- ---- places

skip : ℕ → ℕ → ℕ
skip p j = cond (leb p j) (suc j) j

skip-low : (p j : ℕ) → j < p → skip p j ≡ j
unfolding skip
skip-low p j h = by_test (leb p j) (λ e. absurd (let k = (decide-leb p j).yes e in omega arith)) (λ e. rw e refl)

skip-high : (p j : ℕ) → p ≤ j → skip p j ≡ suc j
unfolding skip
skip-high p j h = by_test (leb p j) (λ e. rw e refl) (λ e. absurd ((decide-leb p j).no e h))

at-skip : (a b : List ℕ) (y j : ℕ) → get_or (a ++ (y ∷ b)) (skip (length a) j) 0 ≡ get_or (a ++ b) j 0
at-skip [] b y j = rw (skip-high 0 j (omega arith)) refl
at-skip (x ∷ a) b y zero = rw (skip-low (suc (length a)) 0 (omega arith)) refl
at-skip (x ∷ a) b y (suc j) = rw (step (length a) j) (at-skip a b y j)
  where
    step : (p j : ℕ) → skip (suc p) (suc j) ≡ suc (skip p j)
    step p j = ⊎_elim (λ k. skip-low (suc p) (suc j) (omega arith) ∙ ap suc (sym (skip-low p j k))) (λ k. skip-high (suc p) (suc j) (omega arith) ∙ ap suc (sym (skip-high p j k))) (less-or j p)

skip-apart : (p i j : ℕ) → skip p i ≡ skip p j → i ≡ j
skip-apart p i j e =
    ⊎_elim
    (λ a. ⊎_elim (λ b. let x = skip-low p i a in let y = skip-low p j b in omega arith) (λ b. absurd (let x = skip-low p i a in let y = skip-high p j b in omega arith)) (less-or j p))
    (λ a. ⊎_elim (λ b. absurd (let x = skip-high p i a in let y = skip-low p j b in omega arith)) (λ b. let x = skip-high p i a in let y = skip-high p j b in omega arith) (less-or j p))
    (less-or i p)

skip-not : (p j : ℕ) → skip p j ≡ p → ⊥
skip-not p j e = ⊎_elim (λ a. let x = skip-low p j a in omega arith) (λ a. let x = skip-high p j a in omega arith) (less-or j p)

skip_below : (p j n : ℕ) → p ≤ n → j < n → skip p j < suc n
skip_below p j n a b = ⊎_elim (λ k. let x = skip-low p j k in omega arith) (λ k. let x = skip-high p j k in omega arith) (less-or j p)

abbrev places : ℕ → (ℕ → ℕ) → ℕ → ℕ
places p to zero = p
places p to (suc i) = skip p (to i)

paired : (x : ℕ) (m n : List ℕ) (r : Taken x n) → Pairing m (r.front ++ r.back) → Pairing (x ∷ m) n
paired x m n r g =
    record {
      to = places p g.to;
      place = λ i. in_place i;
      apart = λ i j. different i j;
      high = λ i. higher i;
    }
  where
    p : ℕ
    p = length r.front

    long : length n ≡ suc (length (r.front ++ r.back))
    long = ap length r.is ∙ (length-append r.front (r.value ∷ r.back) ∙ (let h = length-append r.front r.back in omega arith))

    in_place : (i : ℕ) → i < length (x ∷ m) → places p g.to i < length n
    in_place zero h = let a = length-append r.front r.back in let l = long in omega arith
    in_place (suc i) h = let a = length-append r.front r.back in let l = long in let b = skip_below p (g.to i) (length (r.front ++ r.back)) (omega arith) (g.place i (omega arith)) in omega arith

    different : (i j : ℕ) → i < length (x ∷ m) → j < length (x ∷ m) → places p g.to i ≡ places p g.to j → i ≡ j
    different zero zero a b e = refl
    different zero (suc j) a b e = absurd (skip-not p (g.to j) (sym e))
    different (suc i) zero a b e = absurd (skip-not p (g.to i) e)
    different (suc i) (suc j) a b e = ap suc (g.apart i j (omega arith) (omega arith) (skip-apart p (g.to i) (g.to j) e))

    higher : (i : ℕ) → i < length (x ∷ m) → get_or (x ∷ m) i 0 ≤ get_or n (places p g.to i) 0
    higher zero h = rw r.is (rw (get_or-append_seam r.front r.value r.back 0) r.high)
    higher (suc i) h = rw r.is (rw (at-skip r.front r.back r.value (g.to i)) (g.high i (omega arith)))

pub fewer-pairing : (m n : List ℕ) → Fewer m n → Pairing m n
fewer-pairing [] n f = record { to = λ i. 0; place = λ i h. absurd (omega arith); apart = λ i j h. absurd (omega arith); high = λ i h. absurd (omega arith) }
fewer-pairing (x ∷ m) n f =
    ⊎_elim (λ r. paired x m n r (fewer-pairing m (r.front ++ r.back) (rest-fewer x m n r f)))
    (λ none. absurd (let a = f x in let b = is-high x x (omega arith) in let c = none-high n x none in omega arith))
    (take-lowest x n)

-- ---- and back

record Split (n : List ℕ) (p : ℕ) : Type 0 where
  front : List ℕ
  value : ℕ
  back : List ℕ
  is : n ≡ front ++ (value ∷ back)
  at : length front ≡ p

split_at : (n : List ℕ) (p : ℕ) → p < length n → Split n p
split_at [] p h = absurd (omega arith)
split_at (x ∷ n) zero h = record { front = []; value = x; back = n; is = refl; at = refl }
split_at (x ∷ n) (suc p) h =
    let r = split_at n p (omega arith) in
    record { front = x ∷ r.front; value = r.value; back = r.back; is = ap (λ (q : List ℕ). x ∷ q) r.is; at = ap suc r.at }

unskip : ℕ → ℕ → ℕ
unskip p j = cond (leb p j) (j - 1) j

unskip-low : (p j : ℕ) → j < p → unskip p j ≡ j
unfolding unskip
unskip-low p j h = by_test (leb p j) (λ e. absurd (let k = (decide-leb p j).yes e in omega arith)) (λ e. rw e refl)

unskip-high : (p j : ℕ) → p ≤ j → unskip p j ≡ j - 1
unfolding unskip
unskip-high p j h = by_test (leb p j) (λ e. rw e refl) (λ e. absurd ((decide-leb p j).no e h))

skip-unskip : (p j : ℕ) → (j ≡ p → ⊥) → skip p (unskip p j) ≡ j
skip-unskip p j n =
    ⊎_elim
    (λ a. let u = unskip-low p j a in let s = skip-low p (unskip p j) (omega arith) in omega arith)
    (λ a. let u = unskip-high p j a in let z : p < j = omega (arith, n) in let s = skip-high p (unskip p j) (omega arith) in omega arith)
    (less-or j p)

unskip-below : (p j n : ℕ) → (j ≡ p → ⊥) → p ≤ n → j < suc n → unskip p j < n
unskip-below p j n d a b =
    ⊎_elim (λ k. let u = unskip-low p j k in omega arith) (λ k. let u = unskip-high p j k in let z : p < j = omega (arith, d) in omega arith) (less-or j p)

module _ (x : ℕ) (m n : List ℕ) (g : Pairing (x ∷ m) n) (s : Split n (g.to 0)) where
  other : (i : ℕ) → i < length m → g.to (suc i) ≡ g.to 0 → ⊥
  other i h e = let z = g.apart (suc i) 0 (omega arith) (omega arith) e in omega arith

  long_rest : length n ≡ suc (length (s.front ++ s.back))
  long_rest = ap length s.is ∙ (length-append s.front (s.value ∷ s.back) ∙ (let h = length-append s.front s.back in omega arith))

  without : Pairing m (s.front ++ s.back)
  without =
      record {
        to = λ i. unskip (g.to 0) (g.to (suc i));
        place = λ i h.
            let a = long_rest in let b = length-append s.front s.back in let c = s.at in
            unskip-below (g.to 0) (g.to (suc i)) (length (s.front ++ s.back)) (other i h) (omega arith) (let q = g.place (suc i) (omega arith) in omega arith);
        apart = λ i j h k e.
            let a = skip-unskip (g.to 0) (g.to (suc i)) (other i h) in
            let b = skip-unskip (g.to 0) (g.to (suc j)) (other j k) in
            let q : g.to (suc i) ≡ g.to (suc j) = sym a ∙ (ap (skip (g.to 0)) e ∙ b) in
            let z = g.apart (suc i) (suc j) (omega arith) (omega arith) q in omega arith;
        high = λ i h.
            let a = g.high (suc i) (omega arith) in
            let b : get_or n (g.to (suc i)) 0 ≡ get_or (s.front ++ s.back) (unskip (g.to 0) (g.to (suc i))) 0 =
            ap (λ (j : ℕ). get_or n j 0) (sym (skip-unskip (g.to 0) (g.to (suc i)) (other i h)))
            ∙ (ap (λ (q : List ℕ). get_or q (skip (g.to 0) (unskip (g.to 0) (g.to (suc i)))) 0) s.is
            ∙ (ap (λ (p : ℕ). get_or (s.front ++ (s.value ∷ s.back)) (skip p (unskip (g.to 0) (g.to (suc i)))) 0) (sym s.at)
            ∙ at-skip s.front s.back s.value (unskip (g.to 0) (g.to (suc i))))) in
            omega arith;
      }

  first-high : x ≤ s.value
  first-high =
      let a = g.high 0 (omega arith) in
      let b : get_or n (g.to 0) 0 ≡ s.value = ap (λ (q : List ℕ). get_or q (g.to 0) 0) s.is ∙ (ap (λ (p : ℕ). get_or (s.front ++ (s.value ∷ s.back)) p 0) (sym s.at) ∙ get_or-append_seam s.front s.value s.back 0) in
      omega arith

  more : Fewer m (s.front ++ s.back) → Fewer (x ∷ m) n
  more f t =
      let whole : at_least n t ≡ at_least s.front t + (is_high t s.value + at_least s.back t) = ap (λ (q : List ℕ). at_least q t) s.is ∙ at-least-append s.front (s.value ∷ s.back) t in
      let part = at-least-append s.front s.back t in
      let ft = f t in
      let hv = first-high in
      ⊎_elim (λ k. let a = not-high t x k in omega arith) (λ k. let a = is-high t x k in let b = is-high t s.value (omega arith) in omega arith) (less-or x t)

pub pairing-fewer : (m n : List ℕ) → Pairing m n → Fewer m n
pairing-fewer [] n g = λ t. omega arith
pairing-fewer (x ∷ m) n g =
    let s = split_at n (g.to 0) (g.place 0 (omega arith)) in
    more x m n g s (pairing-fewer m (s.front ++ s.back) (without x m n g s))
