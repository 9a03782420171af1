-- Looking a key up in the table, and what its place says of the item rows.
-- Assumes nothing.
use mathlib.Core.Path.{◌≡◌, refl, sym, ◌∙◌}
use mathlib.Core.List.{List, [], ◌∷◌, map}
use mathlib.Core.Bool.{true, cond, ◌&&◌}
use Prim.Native.Nat.{ℕ, suc, ◌≤◌, ◌<◌}
use native.Mathlib.Omega.{arith}
use lib.ListN.{length, take}
use lib.Seq.{length-take-le}
use lib.Dec.{eqb, ltb, leb-suc-suc}
use borrow.Author.Tests.{eq-eqb, lt-ltb, ltb-true, ltb-false}
use Rattle.std.specs.Prelude.{Option, Some, None}
use Rattle.std.specs.Option.{unwrap_or}
use Rattle.std.specs.List.{position_or_len, zip}
use Rattle.std.proofs.lemmas.Slice.Zip.{length-zip}
use Rattle.vertex_set.proofs.Cases.{by_test}
use Rattle.sheet_fields.specs.declared.Key.{Key}
use Rattle.vertex_set.proofs.Decisions.{decide-eqb, and_both, decide-and, no_of}
use Rattle.sheet_format.specs.Text.{same_text}
use Rattle.sheet_format.specs.Fields.{is_name}
use Rattle.sheet_format.specs.Rows.{ItemRow, Each, number_in}
use Rattle.sheet_format.specs.Questions.{is_known}
use Rattle.sheet_format.proofs.Tests.{text-decided}
use Rattle.sheet_fields.specs.Inner.Keys.{key_of}
use Rattle.sheet_fields.proofs.Packing.{key-same}
use Rattle.sheet_fields.proofs.Names.{name-small}
use Rattle.sheet_rows.specs.Inner.NameKeys.{low_of, high_of, WellNamed, NameKeys, place_of, place_in}

-- ---- looking a key up

-- by what std says of `position` over the two lists together
pub place-zip : (xs ys : List ℕ) (a b : ℕ) → length xs ≡ length ys → position_or_len (λ (p : ℕ × ℕ). eqb p.0 a && eqb p.1 b) (zip xs ys) ≡ place_of xs ys a b
unfolding place_of
place-zip [] ys a b h = refl
place-zip (x ∷ xs) [] a b h = refl
place-zip (x ∷ xs) (y ∷ ys) a b h =
    let i = place-zip xs ys a b (omega arith) in
    by_test (eqb x a && eqb y b) (λ e. rw e) (λ e. rw e (omega arith))

pub found_in : (low high : List ℕ) (n : ℕ) (key : Key) (r : Option ℕ) → n ≤ length low → n ≤ length high
    → r ≡ cond (ltb (position_or_len (λ (p : ℕ × ℕ). eqb p.0 key.low && eqb p.1 key.high) (zip (take n low) (take n high))) (length (zip (take n low) (take n high))))
    (Some (position_or_len (λ (p : ℕ × ℕ). eqb p.0 key.low && eqb p.1 key.high) (zip (take n low) (take n high)))) None
    → r ≡ place_in low high n key
found_in low high n key r h k e =
    let p = length-take-le n low h in
    let q = length-take-le n high k in
    let z : length (zip (take n low) (take n high)) ≡ n = length-zip (take n low) (take n high) ∙ omega arith in
    let x = place-zip (take n low) (take n high) key.low key.high (p ∙ sym q) in
    by_test (ltb (place_of (take n low) (take n high) key.low key.high) n) (λ t. rw (e, x, z, t)) (λ t. rw (e, x, z, t))

-- where a key is found, and where it is not
pub found-some : (low high : List ℕ) (n : ℕ) (key : Key) (i : ℕ) → Some i ≡ place_in low high n key → (i ≡ place_of (take n low) (take n high) key.low key.high) × (i < n)
found-some low high n key i e =
    by_test (ltb (place_of (take n low) (take n high) key.low key.high) n)
    (λ t.
    let k : Some i ≡ Some (place_of (take n low) (take n high) key.low key.high) = rw t at e in
    let l = ltb-true (place_of (take n low) (take n high) key.low key.high) n t in
    let q : i ≡ place_of (take n low) (take n high) key.low key.high = cc in
    (q, omega arith))
    (λ t. absurd (let k : Some i ≡ None = rw t at e in cc))

pub found-none : (low high : List ℕ) (n : ℕ) (key : Key) → None ≡ place_in low high n key → n ≤ place_of (take n low) (take n high) key.low key.high
found-none low high n key e =
    by_test (ltb (place_of (take n low) (take n high) key.low key.high) n)
    (λ t. absurd (let k : None ≡ Some (place_of (take n low) (take n high) key.low key.high) = rw t at e in cc))
    (λ t. ltb-false (place_of (take n low) (take n high) key.low key.high) n t)

-- the place behind the last stands for a name that is not there
pub place-over : (low high : List ℕ) (n : ℕ) (key : Key) (o : Option ℕ) → o ≡ place_in low high n key → (r : ℕ) → r ≡ unwrap_or o n → n ≤ r → None ≡ place_in low high n key
place-over low high n key None e r u h = e
place-over low high n key (Some i) e r u h = absurd (let f = found-some low high n key i e in omega (arith, f.1))

pub place-within : (low high : List ℕ) (n : ℕ) (key : Key) (o : Option ℕ) → o ≡ place_in low high n key → (r : ℕ) → r ≡ unwrap_or o n → r < n → Some r ≡ place_in low high n key
place-within low high n key None e r u h = absurd (omega (arith, u))
place-within low high n key (Some i) e r u h = rw u e

-- ---- what the place says

key-test : (a b : List ℕ) → is_name a ≡ true → is_name b ≡ true → (eqb (key_of a).low (key_of b).low && eqb (key_of a).high (key_of b).high) ≡ same_text a b
key-test a b p q =
    by_test (same_text a b)
    (λ e. let s = (text-decided a b).yes e in rw (e, s) (and_both (eqb (key_of b).low (key_of b).low) (eqb (key_of b).high (key_of b).high) (eq-eqb (key_of b).low (key_of b).low refl) (eq-eqb (key_of b).high (key_of b).high refl)))
    (λ e. no_of (eqb (key_of a).low (key_of b).low && eqb (key_of a).high (key_of b).high)
    (decide-and (eqb (key_of a).low (key_of b).low) (eqb (key_of a).high (key_of b).high) (decide-eqb (key_of a).low (key_of b).low) (decide-eqb (key_of a).high (key_of b).high))
    (λ k. (text-decided a b).no e (key-same a b (name-small a p) (name-small b q) k)) ∙ sym e)

place-number : (xs : List ItemRow) (n : List ℕ) → Each WellNamed xs → is_name n ≡ true → place_of (map low_of xs) (map high_of xs) (key_of n).low (key_of n).high ≡ number_in xs n
unfolding place_of number_in
place-number [] n w h = refl
place-number (x ∷ xs) n w h = rw (key-test x.name n w.0 h, place-number xs n w.1 h)

pub table-place : (xs : List ItemRow) (low high : List ℕ) (count : ℕ) (n : List ℕ) → NameKeys xs low high count → is_name n ≡ true
    → place_of (take count low) (take count high) (key_of n).low (key_of n).high ≡ number_in xs n
table-place xs low high count n t h = rw (t.lows, t.highs) (place-number xs n t.named h)

pub known-test : (xs : List ItemRow) (n : List ℕ) → is_known xs n ≡ ltb (number_in xs n) (length xs)
unfolding is_known number_in
known-test [] n = refl
known-test (x ∷ xs) n =
    by_test (same_text x.name n)
    (λ e. rw e (sym (lt-ltb 0 (suc (length xs)) (omega arith))))
    (λ e. rw e (known-test xs n ∙ sym (leb-suc-suc (suc (number_in xs n)) (length xs))))
