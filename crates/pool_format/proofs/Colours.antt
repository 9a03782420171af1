-- The renaming of colours is the one in document 02's words, and no two colours are renamed to the same one.
-- Assumes nothing.
use mathlib.Core.Path.{◌≡◌, refl, sym, ◌∙◌}
use mathlib.Core.List.Memᴰ
use mathlib.Core.List.{List, [], ◌∷◌}
use mathlib.Core.Bool.{Bool, true, false, ◌&&◌}
use mathlib.Core.Logic.{◌⊎◌, inl, inr, ⊎_elim}
use Prim.Native.Nat.{ℕ, zero, suc, ◌+◌, ◌≤◌, ◌<◌}
use native.Mathlib.Nat.{not-suc-le-zero}
use native.Mathlib.Omega.{arith}
use lib.Dec.{eqb}
use borrow.Author.Tests.{eqb-true, eq-eqb}
use Rattle.vertex_set.proofs.Cases.{by_test, less-or, same_or, false-true}
use Rattle.sheet_format.specs.Text.{same_text}
use Rattle.sheet_format.specs.Rows.{EdgeRow, Doc, ValidEdge, Valid}
use Rattle.vertex_set.proofs.Decisions.{and_parts, and_both, or_parts, or_left, or_right, yes_of}
use Rattle.sheet_format.proofs.Tests.{text-decided}
use Rattle.sheet_format.proofs.Question12Lists.{In, of-each}
use Rattle.pool_format.specs.Rows.{uses_colour, lowest_free, is_taken, new_colour}
use Rattle.pool_format.specs.Meaning.{RenamesLowest, Renaming}

-- ---- the lowest number that is not taken

pub lowest-most : (t : ℕ → Bool) (k m : ℕ) → lowest_free t k m ≤ k + m
unfolding lowest_free
lowest-most t k zero = omega arith
lowest-most t k (suc m) = by_test (t k) (λ e. rw e (let h = lowest-most t (suc k) m in omega arith)) (λ e. rw e (omega arith))

-- every lower one is taken
pub lowest-taken : (t : ℕ → Bool) (k m j : ℕ) → k ≤ j → j < lowest_free t k m → t j ≡ true
unfolding lowest_free
lowest-taken t k zero j a b = absurd (omega arith)
lowest-taken t k (suc m) j a b =
    by_test (t k)
    (λ e. ⊎_elim (λ q. rw q e) (λ q. lowest-taken t (suc k) m j (omega (arith, q)) (rw e at b)) (same_or j k))
    (λ e. absurd (let c = rw e at b in omega arith))

-- within the numbers that are looked at, the answer itself is not
pub lowest-free : (t : ℕ → Bool) (k m : ℕ) → lowest_free t k m < k + m → t (lowest_free t k m) ≡ false
unfolding lowest_free
lowest-free t k zero h = absurd (omega arith)
lowest-free t k (suc m) h =
    by_test (t k) (λ e. rw e (let g = rw e at h in lowest-free t (suc k) m (omega arith))) (λ e. rw e e)

lowest-within : (t : ℕ → Bool) (k m x : ℕ) → k ≤ x → t x ≡ false → lowest_free t k m ≤ x
lowest-within t k m x a e =
    ⊎_elim (λ l. absurd (false-true (sym e ∙ lowest-taken t k m x a l))) (λ l. l) (less-or x (lowest_free t k m))

-- ---- the colours of edges

-- a row's colour is one of the edges into its item
pub uses-of : (es : List EdgeRow) (x : EdgeRow) → In x es → uses_colour es x.to x.colour ≡ true
unfolding uses_colour
uses-of [] x m = absurd (Memᴰ.not-nil m)
uses-of (e ∷ es) x m =
    ⊎_elim
    (λ q. rw q (or_left (same_text e.to e.to && eqb e.colour e.colour) (uses_colour es e.to e.colour)
    (and_both (same_text e.to e.to) (eqb e.colour e.colour) (yes_of (same_text e.to e.to) (text-decided e.to e.to) refl) (eq-eqb e.colour e.colour refl))))
    (λ k. or_right (same_text e.to x.to && eqb e.colour x.colour) (uses_colour es x.to x.colour) (uses-of es x k))
    (Memᴰ.cases_cons m)

-- and a colour of the edges into an item is that of a row
pub record UsedBy (es : List EdgeRow) (n : List ℕ) (c : ℕ) : Type 0 where
  pub row : EdgeRow
  pub stands : In row es
  pub to : row.to ≡ n
  pub colour : row.colour ≡ c

pub used-by : (es : List EdgeRow) (n : List ℕ) (c : ℕ) → uses_colour es n c ≡ true → UsedBy es n c
unfolding uses_colour
used-by [] n c h = absurd (false-true h)
used-by (e ∷ es) n c h =
    ⊎_elim
    (λ a. let p = and_parts (same_text e.to n) (eqb e.colour c) a in
    record { row = e; stands = Memᴰ.head refl; to = (text-decided e.to n).yes p.0; colour = eqb-true e.colour c p.1 })
    (λ a. let u = used-by es n c a in
    record { row = u.row; stands = Memᴰ.tail u.stands; to = u.to; colour = u.colour })
    (or_parts (same_text e.to n && eqb e.colour c) (uses_colour es n c) h)

-- ---- what is taken

module _ (es fs : List EdgeRow) (n : List ℕ) where
  pub taken-first : (c k : ℕ) → uses_colour es n k ≡ true → is_taken es fs n c k ≡ true
  unfolding is_taken
  taken-first zero k h = h
  taken-first (suc c) k h = or_left (is_taken es fs n c k) _ (taken-first c k h)

  pub taken-renamed : (c b : ℕ) → b < c → uses_colour fs n b ≡ true → is_taken es fs n c (new_colour es fs n b) ≡ true
  unfolding is_taken new_colour
  taken-renamed zero b l h = absurd (not-suc-le-zero l)
  taken-renamed (suc c) b l h =
      ⊎_elim
      (λ q. or_right (is_taken es fs n c (new_colour es fs n b)) _
      (rw (← q) (and_both (uses_colour fs n b) (eqb (new_colour es fs n b) (new_colour es fs n b)) h (eq-eqb (new_colour es fs n b) (new_colour es fs n b) refl))))
      (λ q. or_left (is_taken es fs n c (new_colour es fs n b)) _ (taken-renamed c b (omega (arith, q)) h))
      (same_or b c)

  -- the colours that the definition calls taken are those in document 02's words
  pub taken-by : (c k : ℕ) → is_taken es fs n c k ≡ true
      → (uses_colour es n k ≡ true) ⊎ ((b : ℕ) × (b < c) × (uses_colour fs n b ≡ true) × (new_colour es fs n b ≡ k))
  unfolding is_taken new_colour
  taken-by zero k h = inl h
  taken-by (suc c) k h =
      ⊎_elim
      (λ a. ⊎_elim (λ u. inl u) (λ r. inr (r.0, (let l = r.1 in omega arith), r.2, r.3)) (taken-by c k a))
      (λ a. let p = and_parts (uses_colour fs n c) (eqb (new_colour es fs n c) k) a in inr (c, omega arith, p.0, eqb-true (new_colour es fs n c) k p.1))
      (or_parts (is_taken es fs n c k) (uses_colour fs n c && eqb (new_colour es fs n c) k) h)

  module _ (few : (k : ℕ) → uses_colour es n k ≡ true → k ≤ 7) where
    -- 8 + c is neither one of the first sheet's colours nor an earlier renaming
    taken-below : (c k : ℕ) → is_taken es fs n c k ≡ true → k < 8 + c
    unfolding is_taken new_colour
    taken-below zero k h = let l = few k h in omega arith
    taken-below (suc c) k h =
        ⊎_elim
        (λ a. let l = taken-below c k a in omega arith)
        (λ a. let p = and_parts (uses_colour fs n c) (eqb (new_colour es fs n c) k) a in
        let q = eqb-true (new_colour es fs n c) k p.1 in
        let w = lowest-within (is_taken es fs n c) 0 16 (8 + c) (omega arith)
        (by_test (is_taken es fs n c (8 + c)) (λ t. absurd (let l = taken-below c (8 + c) t in omega arith)) (λ t. t)) in
        omega arith)
        (or_parts (is_taken es fs n c k) (uses_colour fs n c && eqb (new_colour es fs n c) k) h)

    pub new-most : (c : ℕ) → new_colour es fs n c ≤ 8 + c
    unfolding new_colour
    new-most c =
        lowest-within (is_taken es fs n c) 0 16 (8 + c) (omega arith)
        (by_test (is_taken es fs n c (8 + c)) (λ e. absurd (let b = taken-below c (8 + c) e in omega arith)) (λ e. e))

    new-free : (c : ℕ) → c ≤ 7 → is_taken es fs n c (new_colour es fs n c) ≡ false
    unfolding new_colour
    new-free c l = let m = new-most c in lowest-free (is_taken es fs n c) 0 16 (omega arith)

    pub renames-lowest : (c : ℕ) → c ≤ 7 → RenamesLowest es fs n c
    unfolding new_colour
    renames-lowest c l =
        record {
          unused = λ u. false-true (sym (new-free c l) ∙ taken-first c (new_colour es fs n c) u);
          fresh = λ b s u e. false-true (sym (new-free c l) ∙ rw e at (taken-renamed c b s u));
          lowest = λ k s. taken-by c k (lowest-taken (is_taken es fs n c) 0 16 k (omega arith) s);
        }

    -- two used colours with the same new one are the same
    pub new-once : (a b : ℕ) → a ≤ 7 → b ≤ 7 → uses_colour fs n a ≡ true → uses_colour fs n b ≡ true → new_colour es fs n a ≡ new_colour es fs n b → a ≡ b
    new-once a b p q u v e =
        ⊎_elim (λ s. s)
        (λ s. ⊎_elim (λ l. absurd ((renames-lowest b q).fresh a l u e)) (λ l. absurd ((renames-lowest a p).fresh b (omega (arith, s)) v (sym e))) (less-or a b))
        (same_or a b)

-- the colours of valid rows are at most 7
pub few-colours : (d : Doc) → Valid d → (n : List ℕ) (k : ℕ) → uses_colour d.edges n k ≡ true → k ≤ 7
few-colours d v n k h =
    let u = used-by d.edges n k h in
    let l = (of-each (ValidEdge d.items) d.edges v.edges u.row u.stands).colour in
    rw u.colour at l

-- document 02's sentence on colours
pub renaming : Renaming
renaming d e v w n c l = renames-lowest d.edges e.edges n (few-colours d v n) c l
