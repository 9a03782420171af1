-- The lowest free colour, colour by colour, is the new colour of document 02.
-- Assumes nothing.
use mathlib.Core.Path.{◌≡◌, refl, sym, ◌∙◌}
use mathlib.Core.List.{List}
use mathlib.Core.Bool.{Bool, true, ◌&&◌}
use mathlib.Core.Logic.{inl, inr, ⊎_elim}
use Prim.Native.Nat.{ℕ, zero, suc, ◌+◌, ◌-◌, ◌≤◌, ◌<◌}
use native.Mathlib.Nat.{not-suc-le-zero}
use native.Mathlib.Numerals.{add-one}
use native.Mathlib.Omega.{arith}
use lib.ListN.{length}
use lib.Dec.{eqb}
use borrow.Author.Tests.{eqb-true, eq-eqb}
use Rattle.vertex_set.specs.Set.{Member, Iff, Inserted}
use Rattle.vertex_set.specs.Inner.{TakenBelow}
use Rattle.vertex_set.proofs.Cases.{less-or, same_or, false-true}
use Rattle.std.specs.Prelude.{Option, Some, None}
use Rattle.setup.specs.declared.Rows.{Rows}
use Rattle.setup.specs.Setup.{row_of}
use Rattle.setup.proofs.Graphs.{colour-below}
use Rattle.sheet_format.specs.Rows.{EdgeRow}
use Rattle.vertex_set.proofs.Decisions.{and_parts, and_both, or_parts, or_left, or_right}
use Rattle.vertex_set.proofs.Taking as taking
use Rattle.pool_format.specs.Rows.{uses_colour, lowest_free, is_taken, new_colour}
use Rattle.pool_format.proofs.Colours.{lowest-most, lowest-taken, lowest-free}
use Rattle.pool_colours.specs.Inner.Colours.{LowestFree, Used, RowsOfItem, NewColour}

-- ---- the lowest free one

lowest-is : (t : ℕ → Bool) (s k : ℕ) (r : Option ℕ) → ((j : ℕ) → Iff (t j ≡ true) (Member s j)) → LowestFree s r → r ≡ Some k → k ≡ lowest_free t 0 16
lowest-is t s k r iff l e =
    let most = lowest-most t 0 16 in
    let f = l.some k e in
    let top = f.0 in
    ⊎_elim
    (λ a. absurd (f.2 ((iff k).to (lowest-taken t 0 16 k (omega arith) a))))
    (λ a. ⊎_elim
    (λ b. absurd (false-true (sym (lowest-free t 0 16 (omega arith)) ∙ (iff (lowest_free t 0 16)).from (f.1 (lowest_free t 0 16) b))))
    (λ b. omega arith)
    (less-or (lowest_free t 0 16) k))
    (less-or k (lowest_free t 0 16))

-- The numbers below k are members.
pub record MembersBelow (s k : ℕ) : Type 0 where
  pub each : (j : ℕ) → j < k → Member s j

pub below_none : (s : ℕ) → MembersBelow s 0
below_none s = record { each = λ j l. absurd (not-suc-le-zero l) }

pub below_more : (s k : ℕ) → MembersBelow s k → Member s k → MembersBelow s (k + 1)
below_more s k b m = record { each = λ j l. ⊎_elim (λ e. rw e m) (λ d. b.each j (omega (arith, d))) (same_or j k) }

pub lowest-found : (s k : ℕ) → k < 16 → MembersBelow s k → (Member s k → ⊥) → LowestFree s (Some k)
lowest-found s k l b n = record { some = λ i e. let q : k ≡ i = cc in rw (← q) (l, b.each, n); none = λ e. absurd (cc) }

pub lowest-none : (s k : ℕ) → k ≡ 16 → MembersBelow s k → LowestFree s None
lowest-none s k e b = record { some = λ i q. absurd (cc); none = λ q j l. b.each j (omega arith) }

-- where all of 16 are taken
all-taken : (t : ℕ → Bool) → ((j : ℕ) → j < 16 → t j ≡ true) → 16 ≤ lowest_free t 0 16
all-taken t h =
    ⊎_elim (λ a. absurd (false-true (sym (lowest-free t 0 16 (omega arith)) ∙ h (lowest_free t 0 16) a))) (λ a. a) (less-or (lowest_free t 0 16) 16)

-- ---- the colours whose rows are not empty

abbrev pub UsedBelow : Rows → ℕ → ℕ → Type 0
UsedBelow rows c s = TakenBelow (λ i. row_of rows i ≡ 0 → ⊥) c s

pub used-none : (rows : Rows) → UsedBelow rows 0 0
used-none rows = taking.taken_none (λ i. row_of rows i ≡ 0 → ⊥)

pub used-more : (rows : Rows) (c s s' : ℕ) → c < 8 → UsedBelow rows c s → (row_of rows c ≡ 0 → ⊥) → Inserted s c s' → UsedBelow rows (c + 1) s'
used-more rows c s s' l u n w = taking.taken_more (λ i. row_of rows i ≡ 0 → ⊥) c s u s' (omega arith) n w

pub used-same : (rows : Rows) (c s : ℕ) → UsedBelow rows c s → row_of rows c ≡ 0 → UsedBelow rows (c + 1) s
used-same rows c s u z = taking.taken-same (λ i. row_of rows i ≡ 0 → ⊥) c s u (λ n. n z)

pub used_all : (rows : Rows) (c s : ℕ) → length rows.needs ≡ 8 → c ≡ 8 → UsedBelow rows c s → Used rows s
used_all rows c s l e u =
    record {
      each = λ i.
          record {
            to = λ m. ((u.each i).to m).1;
            from = λ n. let b = colour-below rows 8 i (omega arith) n in (u.each i).from (omega arith, n);
          };
    }

-- ---- what is taken

-- The members of s are the colours that are taken before c is renamed.
pub record TakenBy (es fs : List EdgeRow) (n : List ℕ) (c s : ℕ) : Type 0 where
  pub each : (k : ℕ) → Iff (is_taken es fs n c k ≡ true) (Member s k)

-- The members of s are the colours of the edges into the item n.
pub record ColoursOfItem (es : List EdgeRow) (n : List ℕ) (s : ℕ) : Type 0 where
  pub each : (k : ℕ) → Iff (uses_colour es n k ≡ true) (Member s k)

-- So for whatever rows have the colours of the set `start` and of these rows.
pub record NewSoFar (start : ℕ) (second : Rows) (c s : ℕ) : Type 0 where
  pub each : (es fs : List EdgeRow) (n : List ℕ) → ColoursOfItem es n start → RowsOfItem fs n second → TakenBy es fs n c s

-- The colours from the one that is asked for on add nothing.
pub record NewUpTo (start : ℕ) (second : Rows) (colour b s : ℕ) : Type 0 where
  pub before : b ≤ colour → NewSoFar start second b s
  pub behind : colour ≤ b → NewSoFar start second colour s

pub taken_none : (second : Rows) (s : ℕ) → NewSoFar s second 0 s
unfolding is_taken
taken_none second s = record { each = λ es fs n a b. record { each = a.each } }

new-of : (es fs : List EdgeRow) (n : List ℕ) (c s k : ℕ) (r : Option ℕ) → TakenBy es fs n c s → LowestFree s r → r ≡ Some k → k ≡ new_colour es fs n c
unfolding new_colour
new-of es fs n c s k r t l e = lowest-is (is_taken es fs n c) s k r t.each l e

-- what is taken stays so
stays-taken : (es fs : List EdgeRow) (n : List ℕ) (c m k : ℕ) → is_taken es fs n c k ≡ true → is_taken es fs n (m + c) k ≡ true
unfolding is_taken
stays-taken es fs n c zero k h = let e : 0 + c ≡ c = omega arith in rw e h
stays-taken es fs n c (suc m) k h =
    let e : suc m + c ≡ suc (m + c) = omega arith in
    rw e (or_left (is_taken es fs n (m + c) k) (uses_colour fs n (m + c) && eqb (lowest_free (is_taken es fs n (m + c)) 0 16) k) (stays-taken es fs n c m k h))

-- so there is no new colour once all are taken
none-new : (es fs : List EdgeRow) (n : List ℕ) (c s colour : ℕ) (r : Option ℕ) → TakenBy es fs n c s → LowestFree s r → r ≡ None → c ≤ colour → 16 ≤ new_colour es fs n colour
unfolding new_colour
none-new es fs n c s colour r t l e h =
    let q : colour - c + c ≡ colour = omega arith in
    all-taken (is_taken es fs n colour) (λ j b. rw q at (stays-taken es fs n c (colour - c) j ((t.each j).from (l.none e j b))))

module _ (start : ℕ) (second : Rows) (c s : ℕ) (u : NewSoFar start second c s) where
  pub taken-same : row_of second c ≡ 0 → NewSoFar start second (c + 1) s
  unfolding is_taken
  taken-same z =
      rw (add-one c)
      (record {
        each = λ es fs n a b. record {
          each = λ k. record {
            to = λ t. ⊎_elim (λ h. ((u.each es fs n a b).each k).to h)
                (λ h. absurd ((b.each c).to (and_parts (uses_colour fs n c) (eqb (lowest_free (is_taken es fs n c) 0 16) k) h).0 z))
                (or_parts (is_taken es fs n c k) (uses_colour fs n c && eqb (lowest_free (is_taken es fs n c) 0 16) k) t);
            from = λ m. or_left (is_taken es fs n c k) (uses_colour fs n c && eqb (lowest_free (is_taken es fs n c) 0 16) k) (((u.each es fs n a b).each k).from m);
          };
        };
      })

  pub taken_more : (new s' : ℕ) (r : Option ℕ) → (row_of second c ≡ 0 → ⊥) → LowestFree s r → r ≡ Some new → Inserted s new s' → NewSoFar start second (c + 1) s'
  unfolding is_taken new_colour
  taken_more new s' r z l i w =
      rw (add-one c)
      (record {
        each = λ es fs n a b.
            let e = new-of es fs n c s new r (u.each es fs n a b) l i in
            record {
              each = λ k.
                  let t = w.taken (let m = (l.some new i).0 in omega arith) k in
                  record {
                    to = λ h. t.from (⊎_elim (λ p. inl (((u.each es fs n a b).each k).to p))
                        (λ p. inr (sym (e ∙ eqb-true (new_colour es fs n c) k (and_parts (uses_colour fs n c) (eqb (new_colour es fs n c) k) p).1)))
                        (or_parts (is_taken es fs n c k) (uses_colour fs n c && eqb (new_colour es fs n c) k) h));
                    from = λ m. ⊎_elim
                        (λ p. or_left (is_taken es fs n c k) (uses_colour fs n c && eqb (new_colour es fs n c) k) (((u.each es fs n a b).each k).from p))
                        (λ p. or_right (is_taken es fs n c k) (uses_colour fs n c && eqb (new_colour es fs n c) k)
                        (and_both (uses_colour fs n c) (eqb (new_colour es fs n c) k) ((b.each c).from z) (eq-eqb (new_colour es fs n c) k (sym e ∙ sym p))))
                        (t.to m);
                  };
            };
      })

  module _ (first : Rows) (w : Used first start) where
    own : (es : List EdgeRow) (n : List ℕ) → RowsOfItem es n first → ColoursOfItem es n start
    own es n a = record { each = λ k. record { to = λ t. (w.each k).from ((a.each k).to t); from = λ m. (a.each k).from ((w.each k).to m) } }

    -- no colour is left, for c or a later one
    pub new_none : (r : Option ℕ) (colour : ℕ) → c ≤ colour → LowestFree s r → r ≡ None → NewColour first second colour None
    new_none r colour h l e = record { each = λ es fs n a b. none-new es fs n c s colour r (u.each es fs n (own es n a) b) l e h }

    pub new_is : (r : Option ℕ) → LowestFree s r → NewColour first second c r
    new_is None l = new_none None c (omega arith) l refl
    new_is (Some k) l = record { each = λ es fs n a b. new-of es fs n c s k (Some k) (u.each es fs n (own es n a) b) l refl }

pub upto-none : (second : Rows) (colour s : ℕ) → NewUpTo s second colour 0 s
upto-none second colour s = record { before = λ h. taken_none second s; behind = λ h. let e : colour ≡ 0 = omega (arith, h) in rw e (taken_none second s) }

module _ (start : ℕ) (second : Rows) (colour b : ℕ) where
  pub upto-more : (s : ℕ) → b < colour → NewSoFar start second (b + 1) s → NewUpTo start second colour (b + 1) s
  upto-more s l n = record { before = λ h. n; behind = λ h. let e : colour ≡ b + 1 = omega (arith, h) in rw e n }

  pub upto-over : (s : ℕ) → colour ≤ b → NewUpTo start second colour b s → NewUpTo start second colour (b + 1) s
  upto-over s l u = record { before = λ h. absurd (omega (arith, h)); behind = λ h. u.behind l }
