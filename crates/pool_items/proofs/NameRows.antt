-- The places that one sheet's items have in the other, by the keys of their names.
-- Assumes nothing.
use mathlib.Core.Path.{◌≡◌, sym, ap, ◌∙◌, subst}
use mathlib.Core.List.{List, [], ◌∷◌}
use mathlib.Core.Bool.{true}
use mathlib.Core.Logic.{⊎_elim}
use Prim.Native.Nat.{ℕ, zero, suc, ◌+◌, ◌≤◌, ◌<◌}
use native.Mathlib.Nat.{not-suc-le-zero}
use native.Mathlib.Omega.{arith}
use lib.ListN.{length, get_or, set, take, length-set}
use Rattle.std.proofs.lemmas.List.{length-replicate}
use lib.Seq.{get_or-take, get_or-set_same, get_or-set_other}
use lib.Dec.{ltb}
use Rattle.vertex_set.proofs.Cases.{same_or, by_test}
use Rattle.sheet_format.specs.Fields.{is_name}
use Rattle.sheet_format.specs.Rows.{ItemRow, number_in}
use Rattle.sheet_format.specs.Stated.{StandsAt}
use Rattle.sheet_format.proofs.Question12Lists.{of-each}
use Rattle.sheet_format.proofs.Stated.{stands-below, stands-in}
use Rattle.sheet_fields.specs.Inner.Keys.{key_of}
use Rattle.sheet_rows.specs.Inner.NameKeys.{low_of, high_of, WellNamed, NameKeys, place_of, place_in}
use Rattle.sheet_rows.proofs.Tables.{found-some, table-place, known-test}
use Rattle.sheet_rows.specs.declared.ItemKeys.{ItemKeys}
use Rattle.sheet_fields.specs.declared.Key.{Key}
use Rattle.std.specs.Prelude.{Option, Some, None, replicate}
use Rattle.sheet_lines.proofs.Keys.{image-at}
use Rattle.pool_format.specs.Inner.{shared_place}
use Rattle.pool_items.specs.Inner.Keys.{PlacesInside, KeyPlaces}

-- ---- places

-- what the keys of rows say of one row
pub record KeyOfRow (low high : List ℕ) (j : ℕ) (y : ItemRow) : Type 0 where
  pub low_key : get_or low j 0 ≡ (key_of y.name).low
  pub high_key : get_or high j 0 ≡ (key_of y.name).high
  pub named : is_name y.name ≡ true

key-of-row : (ys : List ItemRow) (low high : List ℕ) (n j : ℕ) (y : ItemRow) → NameKeys ys low high n → StandsAt ys j y → KeyOfRow low high j y
key-of-row ys low high n j y k h =
    let b = stands-below ys j y h in
    let q = k.size in
    record {
      low_key = sym (get_or-take n low j 0 (omega arith)) ∙ ap (λ (l : List ℕ). get_or l j 0) k.lows ∙ image-at low_of ys j y h;
      high_key = sym (get_or-take n high j 0 (omega arith)) ∙ ap (λ (l : List ℕ). get_or l j 0) k.highs ∙ image-at high_of ys j y h;
      named = of-each WellNamed ys k.named y (stands-in ys j y h);
    }

-- a name's key is found where its name is known
place-is : (xs : List ItemRow) (low high : List ℕ) (na : ℕ) (n : List ℕ) → NameKeys xs low high na → is_name n ≡ true → place_in low high na (key_of n) ≡ shared_place xs n
unfolding shared_place
place-is xs low high na n k h =
    let q = k.size in
    rw (table-place xs low high na n k h, known-test xs n, q)
    (by_test (ltb (number_in xs n) (length xs)) (λ t. rw t) (λ t. rw t))

-- The items before j have their places, and each place is one of 64.
pub record PlacesSoFar (low high : List ℕ) (na : ℕ) (second : ItemKeys) (r : List (Option ℕ)) (j : ℕ) : Type 0 where
  pub inside : PlacesInside r
  pub each : (xs ys : List ItemRow) → NameKeys xs low high na → NameKeys ys second.low second.high second.count
      → (i : ℕ) (y : ItemRow) → StandsAt ys i y → i < j → get_or r i None ≡ shared_place xs y.name

nowhere : (n j i : ℕ) → get_or (replicate n None) j None ≡ Some i → ⊥
nowhere zero j i e = absurd (cc)
nowhere (suc n) zero i e = absurd (cc)
nowhere (suc n) (suc j) i e = nowhere n j i e

pub none-inside : PlacesInside (replicate 64 None)
none-inside = record { long = length-replicate {A = Option ℕ} 64 None; each = λ j i e. absurd (nowhere 64 j i e) }

pub places-none : (low high : List ℕ) (na : ℕ) (second : ItemKeys) → PlacesSoFar low high na second (replicate 64 None) 0
places-none low high na second = record { inside = none-inside; each = λ xs ys a b i y h k. absurd (not-suc-le-zero k) }

pub places-more : (low high : List ℕ) (na : ℕ) (second : ItemKeys) (r : List (Option ℕ)) (j : ℕ) (p : Option ℕ) → na ≤ 64 → j < 64 → PlacesSoFar low high na second r j
    → p ≡ place_in low high na (record { low = get_or second.low j 0; high = get_or second.high j 0 }) → PlacesSoFar low high na second (set r j p) (j + 1)
places-more low high na second r j p few small n q =
    record {
      inside = record {
        long = length-set r j p ∙ n.inside.long;
        each = λ k i e. ⊎_elim
            (λ w. let o : p ≡ Some i = sym (get_or-set_same r j p None (let l = n.inside.long in omega arith)) ∙ rw w at e in
            let f = found-some low high na (record { low = get_or second.low j 0; high = get_or second.high j 0 }) i (sym o ∙ q) in
            let g = f.1 in omega arith)
            (λ w. n.inside.each k i (sym (get_or-set_other r j k p None w) ∙ e))
            (same_or k j);
      };
      each = λ xs ys a b i y h k. ⊎_elim
          (λ w.
          let t : StandsAt ys j y = subst (λ (m : ℕ). StandsAt ys m y) w h in
          let o = key-of-row ys second.low second.high second.count j y b t in
          rw w (get_or-set_same r j p None (let l = n.inside.long in omega arith) ∙ q ∙ rw (o.low_key, o.high_key) (place-is xs low high na y.name a o.named)))
          (λ w. get_or-set_other r j i p None w ∙ n.each xs ys a b i y h (omega (arith, w)))
          (same_or i j);
    }

pub places-all : (first second : ItemKeys) (r : List (Option ℕ)) (j : ℕ) → j ≡ second.count → PlacesSoFar first.low first.high first.count second r j → KeyPlaces first second r
places-all first second r j e n =
    record { places = λ xs ys a b. record { each = λ i y h. n.each xs ys a b i y h (let l = stands-below ys i y h in let q = b.size in omega arith) } }
