-- The keys of a sheet's item names, row by row.
-- Assumes nothing.
use mathlib.Core.Path.{◌≡◌, refl, sym, ap, ◌∙◌, subst}
use mathlib.Core.List.{List, [], ◌∷◌, map}
use mathlib.Core.Logic.{⊎_elim}
use Prim.Native.Nat.{ℕ, zero, suc, ◌+◌, ◌-◌, ◌≤◌, ◌<◌}
use native.Mathlib.Nat.{not-suc-le-zero}
use native.Mathlib.Numerals.{add-one}
use native.Mathlib.Omega.{arith}
use lib.ListN.{length, get_or, set, take, drop, length-set, length-map}
use lib.Seq.{ext_get_or, get_or-take, get_or-set_same, get_or-set_other, length-take-le}
use Rattle.vertex_set.proofs.Cases.{same_or}
use Rattle.sheet_format.specs.Text.{lines_of, fields_of}
use Rattle.sheet_format.specs.Rows.{ItemRow, ValidItem, item_fields}
use Rattle.sheet_format.specs.Names.{line_start}
use Rattle.sheet_format.specs.Stated.{StandsAt}
use Rattle.sheet_format.proofs.Lists.{each_map}
use Rattle.sheet_format.proofs.Rows.{plain-yes4, item_line, item-plain, item-written, item-yes5}
use Rattle.sheet_format.proofs.Documents.{item_back}
use Rattle.sheet_format.proofs.Question12Lists.{of-each}
use Rattle.sheet_format.proofs.Stated.{stands-below, at_place, stands-in}
use Rattle.sheet_fields.specs.declared.Key.{Key}
use Rattle.sheet_fields.specs.Inner.Parts.{until}
use Rattle.sheet_fields.specs.Inner.Keys.{key_of}
use Rattle.std.specs.Prelude.{IfOk}
use Rattle.sheet_format.specs.Questions.{question4, question5_item, item_of}
use Rattle.sheet_rows.specs.declared.ItemKeys.{ItemKeys}
use Rattle.sheet_rows.specs.Inner.NameKeys.{low_of, high_of, WellNamed}
use Rattle.sheet_rows.specs.Inner.Lines.{read_line}
use Rattle.sheet_rows.specs.Inner.Lines.{item_line as line_of}
use Rattle.sheet_lines.specs.Inner.Keys.{SheetKeys}
use Rattle.sheet_lines.proofs.Lines.{LineAt, line-found, item-line-at}

-- ---- the key of one row

-- k is the key of whatever item row the line is.
pub record RowKey (l : List ℕ) (k : Key) : Type 0 where
  pub key : (x : ItemRow) → ValidItem x → l ≡ item_line x → k ≡ key_of x.name

pub row-key : (l : List ℕ) (k : Key) → IfOk (read_line (question4 5 (fields_of l)) (question5_item (fields_of l)) (line_of (fields_of l))) (λ item. k ≡ item.key) → RowKey l k
row-key l k h =
    record {
      key = λ x v e.
          let back : fields_of l ≡ item_fields x = ap fields_of e ∙ item_back x v in
          let z : k ≡ key_of (item_of (item_fields x)).name = rw (back, plain-yes4 5 (item_fields x) refl (item-plain x v), item-yes5 x v) at h in
          z ∙ rw (item-written x v);
    }

-- ---- the keys so far

-- The places u of the two lists have the key of the item whose row is line u below the header.
pub record KeyAt (s low high : List ℕ) (u : ℕ) : Type 0 where
  pub key : (x : ItemRow) → ValidItem x → get_or (lines_of s) (suc u) [] ≡ item_line x → (get_or low u 0 ≡ low_of x) × (get_or high u 0 ≡ high_of x)

-- `at` is where the row of item v begins, and the items above have their keys and places.
pub record KeysSoFar (s low high from : List ℕ) (v at : ℕ) : Type 0 where
  pub long_low : length low ≡ 64
  pub long_high : length high ≡ 64
  pub long_from : length from ≡ 65
  pub here : at ≡ line_start (lines_of s) (suc v)
  pub keys : (u : ℕ) → u < v → KeyAt s low high u
  pub starts : (u : ℕ) → u < v → get_or from u 0 ≡ line_start (lines_of s) (suc u)

pub keys_none : (s low high from : List ℕ) (e : ℕ) → length low ≡ 64 → length high ≡ 64 → length from ≡ 65 → 0 < length (lines_of s) → e ≡ 0 + until 10 (drop 0 s)
    → KeysSoFar s low high from 0 (e + 1)
unfolding line_start
keys_none s low high from e a b c h q =
    record {
      long_low = a;
      long_high = b;
      long_from = c;
      here = (line-found s 0 0 e h refl q).next;
      keys = λ u l. absurd (not-suc-le-zero l);
      starts = λ u l. absurd (not-suc-le-zero l);
    }

-- a store at another place
pub set_other : (l : List ℕ) (v x u : ℕ) → u < v → get_or (set l v x) u 0 ≡ get_or l u 0
set_other l v x u h = get_or-set_other l v u x 0 (λ e. omega arith)

module _ (s low high from : List ℕ) (v at e : ℕ) (n : KeysSoFar s low high from v at) (h : suc v < length (lines_of s)) (q : e ≡ at + until 10 (drop at s)) where
  pub row_at : LineAt s (suc v) at e
  row_at = line-found s (suc v) at e h n.here q

  pub keys-more : (k : Key) → v < 64 → RowKey (take (e - at) (drop at s)) k → KeysSoFar s (set low v k.low) (set high v k.high) (set from v at) (v + 1) (e + 1)
  keys-more k small r =
      rw (add-one v)
      (record {
        long_low = length-set low v k.low ∙ n.long_low;
        long_high = length-set high v k.high ∙ n.long_high;
        long_from = length-set from v at ∙ n.long_from;
        here = row_at.next;
        keys = λ u l. ⊎_elim
            (λ w. subst (KeyAt s (set low v k.low) (set high v k.high)) (sym w) new)
            (λ w. old u (omega (arith, w)))
            (same_or u v);
        starts = λ u l. ⊎_elim
            (λ w. rw w (get_or-set_same from v at 0 (let a = n.long_from in omega arith) ∙ n.here))
            (λ w. set_other from v at u (omega (arith, w)) ∙ n.starts u (omega (arith, w)))
            (same_or u v);
      })
    where
      new : KeyAt s (set low v k.low) (set high v k.high) v
      new =
          record {
            key = λ x y z.
                let i = r.key x y (row_at.is ∙ z) in (
                  get_or-set_same low v k.low 0 (let a = n.long_low in omega arith) ∙ ap (λ (j : Key). j.low) i,
                  get_or-set_same high v k.high 0 (let a = n.long_high in omega arith) ∙ ap (λ (j : Key). j.high) i,
                );
          }

      old : (u : ℕ) → u < v → KeyAt s (set low v k.low) (set high v k.high) u
      old u l =
          record {
            key = λ x y z.
                let o = (n.keys u l).key x y z in
                (set_other low v k.low u l ∙ o.0, set_other high v k.high u l ∙ o.1);
          }

-- ---- all keys

-- the number that f gives of a row stands where the row does
pub image-at : (f : ItemRow → ℕ) (xs : List ItemRow) (i : ℕ) (x : ItemRow) → StandsAt xs i x → get_or (map f xs) i 0 ≡ f x
image-at f [] i x h = absurd h
image-at f (y ∷ ys) zero x h = ap f h
image-at f (y ∷ ys) (suc i) x h = image-at f ys i x h

-- a list whose first places have the numbers that f gives of the rows
first-places : (f : ItemRow → ℕ) (xs : List ItemRow) (l : List ℕ) (n : ℕ) → n ≡ length xs → n ≤ length l
    → ((i : ℕ) (x : ItemRow) → StandsAt xs i x → get_or l i 0 ≡ f x) → take n l ≡ map f xs
first-places f xs l n q h each =
    let a = length-take-le n l h in
    let b = length-map xs f in
    ext_get_or 0 (take n l) (map f xs) (omega arith) (λ i k.
    let p = at_place xs i (omega arith) in
    get_or-take n l i 0 (omega arith) ∙ each i p.0 p.1 ∙ sym (image-at f xs i p.0 p.1))

pub keys-all : (s from : List ℕ) (count at : ℕ) (k : ItemKeys) → count ≤ 64 → k.count ≡ count → KeysSoFar s k.low k.high from count at
    → SheetKeys s count (record { keys = k; from = set from count at })
keys-all s from count at k few same n =
    record {
      size = same;
      keys = λ d w t c.
          let one : (i : ℕ) (x : ItemRow) → StandsAt d.items i x → (get_or k.low i 0 ≡ low_of x) × (get_or k.high i 0 ≡ high_of x) = λ i x h.
          (n.keys i (let b = stands-below d.items i x h in omega arith)).key x (of-each ValidItem d.items w.items x (stands-in d.items i x h))
          (rw t (item-line-at d w i x h)) in
          record {
            size = same ∙ c;
            lows = rw same (first-places low_of d.items k.low count c (let a = n.long_low in omega arith) (λ i x h. (one i x h).0));
            highs = rw same (first-places high_of d.items k.high count c (let a = n.long_high in omega arith) (λ i x h. (one i x h).1));
            named = each_map ValidItem WellNamed (λ x y. y.name) d.items w.items;
          };
      starts = λ j l. ⊎_elim
          (λ w. rw w (get_or-set_same from count at 0 (let a = n.long_from in omega arith) ∙ n.here))
          (λ w. set_other from count at j (omega (arith, w)) ∙ n.starts j (omega (arith, w)))
          (same_or j count);
    }
