-- Rows of bits, split into chains (Greene and Kleitman's brackets). A 1 is matched where the 1s behind it leave a 0 over; the foot of a row keeps
-- its matched 1s alone, and rows with one foot make up a chain: each of them lies within the next, with one 1 more, and one has half of all bits.
-- Assumes nothing.
use mathlib.Core.Path.{◌≡◌, refl, sym, ap, ap₂, ◌∙◌, subst}
use mathlib.Core.Bool.{Bool, true, false}
use mathlib.Core.List.{List, [], ◌∷◌}
use mathlib.Core.Logic.{⊎_elim}
use Prim.Native.Nat.{ℕ, zero, suc, ◌+◌, ◌-◌, ◌/◌, ◌≤◌, ◌<◌}
use native.Mathlib.Omega.{arith}
use lib.ListN.{length, get_or}
use Rattle.vertex_set.proofs.Cases.{less-or}

-- How many 1s a row has.
unfoldable pub weight : List Bool → ℕ
weight [] = 0
weight (false ∷ w) = weight w
weight (true ∷ w) = suc (weight w)

-- How many 0s of a row are not matched: as many rows of its chain lie above it.
pub gap : List Bool → ℕ
gap [] = 0
gap (false ∷ w) = suc (gap w)
gap (true ∷ w) = gap w - 1

-- Is a 1 matched, where the 1s behind it leave this number of 0s unmatched? It is, unless the number is 0.
matched : ℕ → Bool
matched zero = false
matched (suc g) = true

pub foot : List Bool → List Bool
foot [] = []
foot (false ∷ w) = false ∷ foot w
foot (true ∷ w) = matched (gap w) ∷ foot w

-- ---- whether a 1 is matched

matched-no : (g : ℕ) → matched g ≡ false → g ≡ 0
unfolding matched
matched-no zero e = refl
matched-no (suc g) e = let z : ◌≡◌ {A = ℕ} 0 1 = cc in absurd (omega arith)

matched-same : (g k : ℕ) → matched g ≡ matched k → g - 1 ≤ k - 1 → g ≤ k
unfolding matched
matched-same zero k e l = omega arith
matched-same (suc g) zero e l = let z : ◌≡◌ {A = ℕ} 0 1 = cc in absurd (omega arith)
matched-same (suc g) (suc k) e l = omega arith

matched-yes : (g : ℕ) → 0 < g → matched g ≡ true
unfolding matched
matched-yes zero l = absurd (omega arith)
matched-yes (suc g) l = refl

matched-none : (g : ℕ) → g ≡ 0 → matched g ≡ false
unfolding matched
matched-none zero e = refl
matched-none (suc g) e = absurd (omega arith)

-- ---- the weights of a chain's rows

-- a chain has one row of each weight from that of its foot to that of its last row, and these two add up to the rows' length
pub balance : (w : List Bool) → weight w + gap w + weight (foot w) ≡ length w
unfolding weight gap foot matched
balance [] = refl
balance (false ∷ w) = let e = balance w in omega arith
balance (true ∷ w) = go (gap w) (balance w)
  where
    go : (g : ℕ) → weight w + g + weight (foot w) ≡ length w → suc (weight w) + (g - 1) + weight (matched g ∷ foot w) ≡ suc (length w)
    go zero e = omega arith
    go (suc g) e = omega arith

foot-le : (w : List Bool) → weight (foot w) ≤ weight w
unfolding weight foot matched
foot-le [] = omega arith
foot-le (false ∷ w) = foot-le w
foot-le (true ∷ w) = go (gap w) (foot-le w)
  where
    go : (g : ℕ) → weight (foot w) ≤ weight w → weight (matched g ∷ foot w) ≤ suc (weight w)
    go zero l = omega arith
    go (suc g) l = omega arith

-- ---- rows of one chain are nested: the one that leaves fewer 0s unmatched has all 1s of the other

pub nested : (a b : List Bool) → length a ≡ length b → foot a ≡ foot b → gap a ≤ gap b → (i : ℕ) → get_or b i false ≡ true → get_or a i false ≡ true
unfolding foot gap
nested [] [] l e g i h = h
nested [] (y ∷ b) l e g i h = absurd (omega arith)
nested (x ∷ a) [] l e g i h = absurd (omega arith)
nested (false ∷ a) (false ∷ b) l e g zero h = h
nested (false ∷ a) (false ∷ b) l e g (suc i) h = nested a b (omega arith) (cc) (omega arith) i h
nested (false ∷ a) (true ∷ b) l e g i h =
    let k : matched (gap b) ≡ false = cc in let z = matched-no (gap b) k in absurd (omega arith)
nested (true ∷ a) (false ∷ b) l e g zero h = refl
nested (true ∷ a) (false ∷ b) l e g (suc i) h =
    let k : matched (gap a) ≡ false = cc in let z = matched-no (gap a) k in nested a b (omega arith) (cc) (omega arith) i h
nested (true ∷ a) (true ∷ b) l e g zero h = refl
nested (true ∷ a) (true ∷ b) l e g (suc i) h =
    let k : matched (gap a) ≡ matched (gap b) = cc in nested a b (omega arith) (cc) (matched-same (gap a) (gap b) k g) i h

-- ---- a chain has a row of each weight between its foot's and its last

-- A row of weight r in the chain of w.
pub record InChain (w : List Bool) (r : ℕ) : Type 0 where
  pub row : List Bool
  pub long : length row ≡ length w
  pub weighs : weight row ≡ r
  pub same : foot row ≡ foot w

-- where the first bit is not matched, it is 0 in all rows of the chain but the last
unmatched-first : (b : Bool) (w : List Bool) (r : ℕ) → foot (b ∷ w) ≡ false ∷ foot w → r ≤ suc (weight w + gap w)
    → (r ≤ weight w + gap w → InChain w r) → (r ≡ suc (weight w + gap w) → InChain w (r - 1)) → InChain (b ∷ w) r
unfolding weight foot
unmatched-first b w r e l below last = ⊎_elim (λ k. lasts (omega arith)) (λ k. longer (below k)) (less-or (weight w + gap w) r)
  where
    longer : InChain w r → InChain (b ∷ w) r
    longer m =
        record { row = false ∷ m.row; long = ap suc m.long; weighs = m.weighs; same = ap (λ (t : List Bool). false ∷ t) m.same ∙ sym e }

    lasts : r ≡ suc (weight w + gap w) → InChain (b ∷ w) r
    lasts k =
        let m = last k in
        let x = balance w in let y = balance m.row in
        let s = m.weighs in let u = m.long in let v = ap weight m.same in
        let z : gap m.row ≡ 0 = omega arith in
        record {
          row = true ∷ m.row;
          long = ap suc m.long;
          weighs = omega arith;
          same = ap₂ (λ (h : Bool) (t : List Bool). h ∷ t) (matched-none (gap m.row) z) m.same ∙ sym e;
        }

-- a 1 that is matched stands in all rows of the chain
matched-first : (w : List Bool) (q r : ℕ) → suc q ≡ r → q < weight w + gap w → matched (gap w) ≡ true → InChain w q → InChain (true ∷ w) r
unfolding weight foot
matched-first w q r e l k m =
    let x = balance w in let y = balance m.row in
    let s = m.weighs in let u = m.long in let v = ap weight m.same in
    let z : 0 < gap m.row = omega arith in
    record {
      row = true ∷ m.row;
      long = ap suc m.long;
      weighs = omega arith;
      same = ap₂ (λ (b : Bool) (t : List Bool). b ∷ t) (matched-yes (gap m.row) z ∙ sym k) m.same;
    }

first_one : (w : List Bool) (r : ℕ) → ((q : ℕ) → weight (foot w) ≤ q → q ≤ weight w + gap w → InChain w q)
    → weight (matched (gap w) ∷ foot w) ≤ r → r ≤ suc (weight w) + (gap w - 1) → (g : ℕ) → gap w ≡ g → InChain (true ∷ w) r
unfolding weight foot
first_one w r rest l h zero e =
    let k = matched-none (gap w) e in
    let low = subst (λ (b : Bool). weight (b ∷ foot w) ≤ r) k l in
    unmatched-first true w r (ap (λ (b : Bool). b ∷ foot w) k) (omega arith) (λ c. rest r low c)
    (λ c. rest (r - 1) (let x = foot-le w in omega arith) (omega arith))
first_one w r rest l h (suc g) e =
    let k = matched-yes (gap w) (omega arith) in
    let low = subst (λ (b : Bool). weight (b ∷ foot w) ≤ r) k l in
    matched-first w (r - 1) r (omega arith) (omega arith) k (rest (r - 1) (omega arith) (omega arith))

of-weight : (w : List Bool) (r : ℕ) → weight (foot w) ≤ r → r ≤ weight w + gap w → InChain w r
unfolding weight gap foot
of-weight [] r l h = record { row = []; long = refl; weighs = omega arith; same = refl }
of-weight (false ∷ w) r l h =
    unmatched-first false w r refl (omega arith) (λ k. of-weight w r l k)
    (λ e. of-weight w (r - 1) (let x = foot-le w in omega arith) (omega arith))
of-weight (true ∷ w) r l h = first_one w r (λ q a b. of-weight w q a b) l h (gap w) refl

-- so every chain has a row with half of all bits
pub middle : (w : List Bool) → InChain w (length w / 2)
middle w = let x = balance w in let y = foot-le w in of-weight w (length w / 2) (omega arith) (omega arith)
