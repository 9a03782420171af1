-- The list of a family's sets: it is right, and it has as many sets as the family has members.
-- Assumes nothing.
use mathlib.Core.Path.{◌≡◌, sym, ap, ◌∙◌, subst}
use mathlib.Core.List.{List, ◌++◌, map, map-append}
use Prim.Native.Nat.{ℕ, suc, ◌+◌, ◌-◌, ◌^◌, ◌≤◌, ◌<◌}
use native.Mathlib.Nat.{lt_of_le_of_lt}
use native.Mathlib.Numerals.{add-one}
use native.Mathlib.Omega.{arith}
use lib.Count.{ones, ones-le}
use lib.ListN.{length, take, length-map}
use lib.Seq.{take_all}
use Rattle.vertex_set.specs.Order.{Listed, Before, sum_over}
use Rattle.vertex_set.proofs.Sets.{member_below, within-le}
use Rattle.vertex_set.proofs.Sorted.{listed-map, listed-of-map, map_same, sorted-map, sorted-ordered}
use Rattle.vertex_set.proofs.Sums.{sum_same, sum-over-powers}
use Rattle.families.specs.Inner.Family.{In, size}
use Rattle.families.specs.Inner.Masks.{SetOfMask}
use Rattle.families.specs.Inner.Exact.{OnChosen}
use Rattle.families.proofs.Masks.{spread, set-of, set_before, set-within}
use Rattle.sums.specs.Inner.Sums.{sum_at, WeightsOf, SumsFit, SumTable}
use Rattle.sums.proofs.Tables.{tables-sum}
use Rattle.written.specs.Inner.{Wrote}
use Rattle.written.proofs.Writing.{Writing, writing-part, writing-room, writing-end, wrote-front}
use Rattle.family_lists.specs.Inner.Lists.{ListOf, WroteSets}
use Rattle.family_lists.specs.Inner.Tables.{sum_by, rising, of_size, by_size}
use Rattle.family_lists.proofs.Order.{listed-members, sorted-rising, Words, length-rising, member-small, listed-by-size, sorted-by-size, length-by-size}

-- The masks of the family's members, by size.
abbrev pub masks_of : List ℕ → List ℕ
masks_of f = by_size (rising 0 f) 0 15

-- Their sets.
abbrev pub sets_of : ℕ → List ℕ → List ℕ
sets_of c f = map (spread 64 c) (masks_of f)

pub listed_in : (f : List ℕ) (m : ℕ) → Listed (masks_of f) m → In f m
listed_in f m h = (listed-members f m).to ((listed-by-size (rising 0 f) 15 0 m).to h).0

pub in-listed : (f : List ℕ) (m : ℕ) → m < 16384 → In f m → Listed (masks_of f) m
in-listed f m h i = (listed-by-size (rising 0 f) 15 0 m).from ((listed-members f m).from i, omega arith, omega (arith, ones-le 14 m h))

pub list_of : (c : ℕ) (f : List ℕ) → c < 2 ^ 64 → length f ≡ 256 → OnChosen c f → ListOf c f (sets_of c f)
list_of c f h e o =
    let below : (m : ℕ) → Listed (masks_of f) m → m < 2 ^ ones c = λ m l.
    let i = listed_in f m l in
    o.below m (member-small f m e i) i in
    record {
      sound = λ x l.
          let r = listed-of-map (spread 64 c) (masks_of f) x l in
          let i = listed_in f r.0 r.1 in
          (r.0, member-small f r.0 e i, i, subst (λ (y : ℕ). SetOfMask c r.0 y) (sym r.2) (set-of c r.0 h));
      whole = λ m l i. (spread 64 c m, listed-map (spread 64 c) (masks_of f) m (in-listed f m l i), set-of c m h);
      ordered = sorted-ordered (sets_of c f) (sorted-map Before Before (spread 64 c) (masks_of f)
          (λ a b p q w. set_before c a b _ _ h (below a p) (below b q) (set-of c a h) (set-of c b h) w)
          (sorted-by-size (rising 0 f) 15 0 (sorted-rising f 0)));
    }

pub length-masks-of : (f : List ℕ) → length f ≡ 256 → Words f → length (masks_of f) ≡ size f
length-masks-of f e w =
    length-by-size (rising 0 f) 15 (λ m l. let i = member-small f m e ((listed-members f m).to l) in omega (arith, ones-le 14 m i))
    ∙ length-rising f 0 w

pub length-sets-of : (c : ℕ) (f : List ℕ) → length f ≡ 256 → Words f → length (sets_of c f) ≡ size f
length-sets-of c f e w = length-map (masks_of f) (spread 64 c) ∙ length-masks-of f e w

-- ---- the loop over the sizes, with those from s on still to come

abbrev pub AllWriting : (ℕ → ℕ) → List ℕ → List ℕ → List ℕ → ℕ → ℕ → Type 0
AllWriting N f entry out next s = Writing entry 0 (map N (masks_of f)) (map N (by_size (rising 0 f) s (15 - s))) out next

module _ (N : ℕ → ℕ) (f entry out : List ℕ) (next s : ℕ) (w : AllWriting N f entry out next s) where
  sizes-front : s < 15 → Writing entry 0 (map N (masks_of f)) (map N (of_size s (rising 0 f)) ++ map N (by_size (rising 0 f) (s + 1) (15 - (s + 1)))) out next
  sizes-front h =
      let e : 15 - s ≡ suc (15 - (s + 1)) = omega arith in
      let parts : map N (by_size (rising 0 f) s (15 - s)) ≡ map N (of_size s (rising 0 f)) ++ map N (by_size (rising 0 f) (s + 1) (15 - (s + 1))) =
      ap (λ (n : ℕ). map N (by_size (rising 0 f) s n)) e ∙ map-append N (of_size s (rising 0 f)) (by_size (rising 0 f) (suc s) (15 - (s + 1)))
      ∙ ap (λ (t : ℕ). map N (of_size s (rising 0 f)) ++ map N (by_size (rising 0 f) t (15 - (s + 1)))) (sym (add-one s)) in
      subst (λ (l : List ℕ). Writing entry 0 (map N (masks_of f)) l out next) parts w

  pub all_room : s < 15 → length f ≡ 256 → Words f → size f ≤ length entry → next + length (of_size s (rising 0 f)) ≤ length out
  all_room h e ws room =
      let l = length-map (masks_of f) N ∙ length-masks-of f e ws in
      let k = length-map (of_size s (rising 0 f)) N in
      let rest : List ℕ = map N (by_size (rising 0 f) (s + 1) (15 - (s + 1))) in
      let r = writing-room entry 0 (map N (masks_of f)) (map N (of_size s (rising 0 f))) rest out next (sizes-front h) (omega arith) in
      omega arith

  pub all-next : s < 15 → (after : List ℕ) (r : ℕ) → Wrote out next (map N (of_size s (rising 0 f))) after r → AllWriting N f entry after r (s + 1)
  all-next h after r p =
      let rest : List ℕ = map N (by_size (rising 0 f) (s + 1) (15 - (s + 1))) in
      writing-part entry 0 _ (map N (of_size s (rising 0 f))) rest out next after r (sizes-front h) p

  pub all_end : s ≡ 15 → Wrote entry 0 (map N (masks_of f)) out next
  all_end e =
      let z : 15 - s ≡ 0 = omega arith in
      writing-end entry 0 _ _ out next (ap (λ (n : ℕ). map N (by_size (rising 0 f) s n)) z) w

-- a family's words taken from its front are the family
pub front_whole : (w f : List ℕ) → w ≡ take 256 f → length f ≡ 256 → w ≡ f
front_whole w f e long = e ∙ take_all 256 f (omega arith)

-- ---- set numbers as sums

pub spread-small : (c m : ℕ) → c < 2 ^ 64 → spread 64 c m < 2 ^ 64
spread-small c m h = lt_of_le_of_lt (within-le (spread 64 c m) c (set-within c m (spread 64 c m) (set-of c m h))) h

module _ (value : ℕ → ℕ) (one : (v : ℕ) → v < 64 → value v ≡ 2 ^ v) (c : ℕ) (h : c < 2 ^ 64) (ws : List ℕ) (w : WeightsOf c value ws) where
  pub number-sum : (m : ℕ) → sum_at ws m ≡ spread 64 c m
  unfolding sum_over
  number-sum m =
      let x : ℕ = spread 64 c m in
      let small = spread-small c m h in
      w.sum m x (set-of c m h) ∙ sum_same value (λ (v : ℕ). 2 ^ v) 64 x (λ v i. one v (member_below 64 x v small i)) ∙ sum-over-powers x small

  pub number_fits : SumsFit ws
  number_fits = record { fits = λ m. rw (number-sum m) (spread-small c m h) }

  pub wrote-sets : (f entry low high : List ℕ) (r : ℕ) (after : List ℕ) → length f ≡ 256 → Words f → OnChosen c f → size f ≤ length entry
      → SumTable ws 0 low → SumTable ws 7 high → Wrote entry 0 (map (sum_by low high) (masks_of f)) after r → WroteSets c f entry r after
  wrote-sets f entry low high r after e words o room p q k =
      let same : map (sum_by low high) (masks_of f) ≡ sets_of c f =
      map_same (sum_by low high) (spread 64 c) (masks_of f)
      (λ m l. tables-sum ws low high p q m (member-small f m e (listed_in f m l)) ∙ number-sum m) in
      let n = length-sets-of c f e words in
      let l = rw same at k in
      record {
        list = sets_of c f;
        is = list_of c f h e o;
        count = omega (arith, l.next);
        all = sym n;
        wrote = wrote-front entry (sets_of c f) after r (omega arith) l;
      }
