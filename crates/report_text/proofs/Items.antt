-- A set's items, from the lowest on.
-- Assumes nothing.
use mathlib.Core.Path.{◌≡◌, refl, sym, ap, ◌∙◌}
use mathlib.Core.Bool.{Bool, true, false}
use mathlib.Core.List.{List, [], ◌∷◌, map}
use mathlib.Core.Logic.{⊎_elim}
use Prim.Native.Nat.{ℕ, zero, suc, ◌+◌, ◌/◌, ◌%◌, ◌^◌}
use native.Mathlib.Numerals.{add-one}
use native.Mathlib.Omega.{arith}
use lib.Pow.{shr-shr}
use borrow.Author.Tests.{ne_eqb}
use Rattle.vertex_set.proofs.Cases.{same_or}
use Rattle.vertex_set.proofs.Places.{places, places-odd, places-even}
use Rattle.reference.specs.Tests.{filtered, is_member}
use Rattle.report_text.specs.Rows.{numbers_from, items_of, joined, set_text}

-- ---- the items of a set are its places

map-shift : (k : ℕ) (l : List ℕ) → map (λ i. k + i) (map suc l) ≡ map (λ i. suc k + i) l
map-shift k [] = refl
map-shift k (i ∷ l) = let e : k + suc i ≡ suc k + i = omega arith in rw (e, map-shift k l)

map-zero : (l : List ℕ) → map (λ i. 0 + i) l ≡ l
map-zero [] = refl
map-zero (i ∷ l) = let e : 0 + i ≡ i = omega arith in rw (e, map-zero l)

half-power : (x k : ℕ) → x / 2 ^ suc k ≡ x / 2 ^ k / 2
half-power x k = rw (← add-one k) (sym (shr-shr x k 1))

-- ---- the elements that pass a test

pub filtered-yes : (test : ℕ → Bool) (x : ℕ) (l : List ℕ) → test x ≡ true → filtered test (x ∷ l) ≡ x ∷ filtered test l
unfolding filtered
filtered-yes test x l e = rw e

pub filtered-no : (test : ℕ → Bool) (x : ℕ) (l : List ℕ) → test x ≡ false → filtered test (x ∷ l) ≡ filtered test l
unfolding filtered
filtered-no test x l e = rw e

member-yes : (x k : ℕ) → x / 2 ^ k % 2 ≡ 1 → is_member x k ≡ true
unfolding is_member
member-yes x k e = rw e

member-no : (x k : ℕ) → (x / 2 ^ k % 2 ≡ 1 → ⊥) → is_member x k ≡ false
unfolding is_member
member-no x k n = ne_eqb (x / 2 ^ k % 2) 1 n

places-zero : (s : ℕ) → places 0 s ≡ []
unfolding places
places-zero s = refl

from_places : (x n k : ℕ) → filtered (is_member x) (numbers_from k n) ≡ map (λ i. k + i) (places n (x / 2 ^ k))
unfolding numbers_from filtered
from_places x zero k = rw (places-zero (x / 2 ^ k))
from_places x (suc n) k =
    let ih : filtered (is_member x) (numbers_from (suc k) n) ≡ map (λ i. k + i) (map suc (places n (x / 2 ^ k / 2))) =
    from_places x n (suc k) ∙ rw (half-power x k) (sym (map-shift k (places n (x / 2 ^ k / 2)))) in
    let e : k + 0 ≡ k = omega arith in
    ⊎_elim
    (λ odd. filtered-yes (is_member x) k (numbers_from (suc k) n) (member-yes x k odd) ∙ ap (λ (l : List ℕ). k ∷ l) ih
    ∙ rw (places-odd n (x / 2 ^ k) odd, e))
    (λ o. let even : x / 2 ^ k % 2 ≡ 0 = omega arith in
    filtered-no (is_member x) k (numbers_from (suc k) n) (member-no x k o) ∙ ih ∙ rw (places-even n (x / 2 ^ k) even))
    (same_or (x / 2 ^ k % 2) 1)

pub items-places : (x : ℕ) → items_of x ≡ places 64 x
unfolding items_of
items-places x = let e : x / 2 ^ 0 ≡ x = omega arith in from_places x 64 0 ∙ map-zero (places 64 (x / 2 ^ 0)) ∙ ap (places 64) e

-- The names of the vertices of s.
abbrev pub names_of : (ℕ → List ℕ) → ℕ → List ℕ
names_of name s = joined name (places 64 s)

pub set-text : (name : ℕ → List ℕ) (x : ℕ) → set_text name x ≡ names_of name x
unfolding set_text
set-text name x = ap (joined name) (items-places x)
