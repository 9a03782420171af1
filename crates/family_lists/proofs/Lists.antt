-- Writing a family's members by size: the lanes of each size, and the loops that append their sums to a list.
-- Assumes nothing.
use mathlib.Core.Path.{◌≡◌, refl, sym, ap, ◌∙◌, subst}
use mathlib.Core.Bool.{Bool, true}
use mathlib.Core.Logic.{⊎_elim}
use mathlib.Core.List.{List, [], ◌∷◌, ◌++◌, map, map-map, map-append, append-nil, append_assoc}
use Prim.Native.Nat.{ℕ, ◌+◌, ◌-◌, ◌*◌, ◌/◌, ◌%◌, ◌^◌, ◌≤◌, ◌<◌}
use native.Mathlib.Numerals.{add-one}
use native.Mathlib.Omega.{arith}
use lib.Bits.{bit_and, and_le_l}
use lib.Count.{ones, ones_in, ones_cat, ones-le, count_trailing_zeros}
use lib.Dec.{eqb}
use lib.ListN.{length, get_or, take, drop, set, length-map, length-set, drop_of_length-le}
use lib.Seq.{drop-cons, drop-length, get_or-take, get_or-set_same, get_or-set_other, take-suc-set, take-set-le, length-take-le}
use borrow.Author.Tests.{eqb-true, eqb-false, eq-eqb, ne_eqb}
use Rattle.vertex_set.specs.Set.{Member, Iff}
use Rattle.vertex_set.proofs.Cases.{by_test, same_or}
use Rattle.vertex_set.proofs.Digits.{digit}
use Rattle.vertex_set.proofs.Sets.{none-in-zero}
use Rattle.vertex_set.proofs.Places.{places, places-none, places-and, listed-places, length-places, is_in, lowest}
use Rattle.vertex_set.proofs.Shifts.{all, all-at, flag}
use Rattle.vertex_set.proofs.Sorted.{map_same, only-append, only-map, only_same}
use Rattle.written.specs.Inner.{Wrote}
use Rattle.written.proofs.Writing.{Writing, writing-part, writing-room, writing-end, wrote_one}
use Rattle.family_lists.specs.Inner.Tables.{Layer, LanesOfSize, masks_in, rising, of_words, Occupied, of_size, sum_by, TablesFit}

-- ---- the lanes of a size

abbrev pub layers : List ℕ
layers =
    0x0000_0000_0000_0001 ∷ 0x0000_0001_0001_0116 ∷ 0x0001_0116_0116_1668 ∷ 0x0116_1668_1668_6880 ∷ 0x1668_6880_6880_8000
    ∷ 0x6880_8000_8000_0000 ∷ 0x8000_0000_0000_0000 ∷ []

-- At each k below 7 and each lane: the lane is in the layer k exactly if its number has k bits.
abbrev right : ℕ → ℕ → Bool
right k i = eqb (digit (get_or layers k 0) i) (flag (eqb (ones i) k))

layers-right : (k i : ℕ) → k < 7 → i < 64 → right k i ≡ true
unfolding ones ones_in
layers-right k i hk hi = all-at (right k) 64 (all-at (λ (k : ℕ). all_true (right k)) 7 refl k hk) i hi
  where
    all_true : (ℕ → Bool) → Bool
    all_true t = all t 64

in-layer : (k i : ℕ) → k < 7 → i < 64 → Iff (Member (get_or layers k 0) i) (ones i ≡ k)
unfolding Member
in-layer k i hk hi =
    let e = eqb-true _ _ (layers-right k i hk hi) in
    by_test (eqb (ones i) k)
    (λ t. let f = e ∙ ap flag t in record { to = λ m. eqb-true _ _ t; from = λ q. f })
    (λ t. let f = e ∙ ap flag t in record { to = λ m. absurd (omega arith); from = λ q. absurd (eqb-false _ _ t q) })

pub mask-ones : (b i : ℕ) → i < 64 → ones (b * 64 + i) ≡ ones b + ones i
mask-ones b i h = ones_cat 6 b i h

pub layer_below : (k s : ℕ) → s < k → Layer k s 0
layer_below k s h = record { each = λ i l. record { to = λ m. absurd (none-in-zero i m); from = λ e. absurd (omega arith) } }

pub layer-beyond : (k s : ℕ) → k ≤ s → 7 ≤ s - k → Layer k s 0
layer-beyond k s h g =
    record { each = λ i l. record { to = λ m. absurd (none-in-zero i m); from = λ e. let o = ones-le 6 i l in absurd (omega arith) } }

pub layer-of : (k s : ℕ) → k ≤ s → s - k < 7 → Layer k s (get_or layers (s - k) 0)
layer-of k s h g =
    record {
      each = λ i l.
          let c = in-layer (s - k) i g l in
          record { to = λ m. let o = c.to m in omega arith; from = λ e. c.from (omega arith) };
    }

pub lanes-of-layer : (b s r : ℕ) → Layer (ones b) s r → LanesOfSize b s r
lanes-of-layer b s r h =
    record {
      each = λ i l.
          let c = h.each i l in
          let f = mask-ones b i l in
          record { to = λ m. f ∙ c.to m; from = λ e. c.from (sym f ∙ e) };
    }

-- ---- one word's sums

-- the sum of a mask by the two tables, in words and lanes
pub lane-sum : (low high : List ℕ) (b i : ℕ) → i < 64 → sum_by low high (b * 64 + i) ≡ get_or high (b / 2) 0 + get_or low (b % 2 * 64 + i) 0
lane-sum low high b i h =
    let e : (b * 64 + i) / 128 ≡ b / 2 = omega arith in
    let f : (b * 64 + i) % 128 ≡ b % 2 * 64 + i = omega arith in
    rw (e, f)

pub lane-sums : (low high : List ℕ) (b y : ℕ)
    → map (λ (i : ℕ). get_or high (b / 2) 0 + get_or low (b % 2 * 64 + i) 0) (places 64 y) ≡ map (sum_by low high) (masks_in b y)
lane-sums low high b y =
    map_same _ _ (places 64 y) (λ i m. sym (lane-sum low high b i ((listed-places 64 y i).to m).1))
    ∙ sym (map-map (sum_by low high) (λ (i : ℕ). b * 64 + i) (places 64 y))

pub lane-fits : (low high : List ℕ) (b i : ℕ) → TablesFit low high → b < 256 → i < 64 → get_or high (b / 2) 0 + get_or low (b % 2 * 64 + i) 0 < 2 ^ 64
lane-fits low high b i t hb hi = let f = t.fits (b * 64 + i) (omega arith) in let e = lane-sum low high b i hi in omega arith

-- The sums of the lanes of rest are still to be written.
pub record Putting (g : ℕ → ℕ) (y : ℕ) (entry : List ℕ) (at : ℕ) (out : List ℕ) (rest next : ℕ) : Type 0 where
  pub small : rest < 2 ^ 64
  pub writing : Writing entry at (map g (places 64 y)) (map g (places 64 rest)) out next

module _ (g : ℕ → ℕ) (y : ℕ) (entry : List ℕ) (at : ℕ) (out : List ℕ) (rest next : ℕ) (p : Putting g y entry at out rest next) where
  pub putting-room : y < 2 ^ 64 → (rest ≡ 0 → ⊥) → at + ones y ≤ length entry → next < length out
  putting-room h ne room =
      let l = lowest rest p.small ne in
      let a = length-map (places 64 y) g ∙ length-places 64 y h in
      let b = length-map (places 64 rest) g ∙ length-places 64 rest p.small in
      omega (arith, l.count, p.writing.count, p.writing.long)

  pub putting-more : (rest ≡ 0 → ⊥)
      → Putting g y entry at (set out next (g (count_trailing_zeros 64 rest))) (rest - (1 * 2 ^ count_trailing_zeros 64 rest) % 2 ^ 64) (next + 1)
  putting-more ne =
      let l = lowest rest p.small ne in
      let v : ℕ = count_trailing_zeros 64 rest in
      let w : Writing entry at (map g (places 64 y)) ((g v ∷ []) ++ map g (places 64 (rest - 2 ^ v))) out next = rw l.list at p.writing in
      rw l.power
      (record {
        small = omega (arith, p.small);
        writing = writing-part entry at _ (g v ∷ []) (map g (places 64 (rest - 2 ^ v))) out next _ _ w (wrote_one out next (g v));
      })

  pub putting-end : rest ≡ 0 → Wrote entry at (map g (places 64 y)) out next
  putting-end z = writing-end entry at _ _ out next (ap (map g) (places-none 64 rest z)) p.writing

-- ---- the masks of one size

-- a lane passes the test of its size exactly if it is in the lanes of that size
same_test : (b s r i : ℕ) → Iff (Member r i) (ones (b * 64 + i) ≡ s) → eqb (ones (b * 64 + i)) s ≡ is_in r i
unfolding Member
same_test b s r i f =
    ⊎_elim (λ e. eq-eqb _ _ e ∙ sym (eq-eqb _ _ (f.from e))) (λ n. ne_eqb _ _ n ∙ sym (ne_eqb _ _ (λ e. n (f.to e))))
    (same_or (ones (b * 64 + i)) s)

-- in one word: those in the lanes of that size
pub sized-lanes : (b s x r : ℕ) → LanesOfSize b s r
    → of_size s (masks_in b x) ≡ masks_in b (bit_and x r)
sized-lanes b s x r h =
    only-map (λ (m : ℕ). eqb (ones m) s) (λ (i : ℕ). b * 64 + i) (places 64 x)
    ∙ ap (map (λ (i : ℕ). b * 64 + i))
    (only_same _ (is_in r) (places 64 x) (λ i m. same_test b s r i (h.each i ((listed-places 64 x i).to m).1)) ∙ sym (places-and 64 x r))

pub length-masks : (b y : ℕ) → y < 2 ^ 64 → length (masks_in b y) ≡ ones y
length-masks b y h = length-map (places 64 y) (λ (i : ℕ). b * 64 + i) ∙ length-places 64 y h

pub sized-count : (b s x r : ℕ) → x < 2 ^ 64 → LanesOfSize b s r → length (of_size s (masks_in b x)) ≡ ones (bit_and x r)
sized-count b s x r h l = ap length (sized-lanes b s x r l) ∙ length-masks b (bit_and x r) (let a = and_le_l x r in omega arith)

-- word by word
pub rising-drop : (f : List ℕ) (b : ℕ) → b < length f
    → rising b (drop b f) ≡ masks_in b (get_or f b 0) ++ rising (b + 1) (drop (b + 1) f)
rising-drop f b h = rw (add-one, drop-cons f b 0 h)

pub rising-end : (f : List ℕ) (b : ℕ) → b ≡ length f → rising b (drop b f) ≡ []
rising-end f b e = rw (e, drop-length f)

-- a word without members has no masks
pub masks-none : (b w : ℕ) → w ≡ 0 → masks_in b w ≡ []
masks-none b w e = rw (places-none 64 w e)

-- ---- the words that are not empty

of-words-append : (f ws vs : List ℕ) → of_words f (ws ++ vs) ≡ of_words f ws ++ of_words f vs
of-words-append f [] vs = refl
of-words-append f (b ∷ ws) vs =
    ap (λ (l : List ℕ). masks_in b (get_or f b 0) ++ l) (of-words-append f ws vs) ∙ sym (append_assoc (masks_in b (get_or f b 0)) (of_words f ws) (of_words f vs))

-- Of the words below b, those that are not empty stand at the first n places.
pub record Indexing (f index : List ℕ) (n b : ℕ) : Type 0 where
  pub long : length index ≡ 256
  pub most : n ≤ b
  pub below : (i : ℕ) → i < n → get_or index i 0 < 256
  pub all : of_words f (take n index) ++ rising b (drop b f) ≡ rising 0 f

pub indexing-none : (f index : List ℕ) → length index ≡ 256 → Indexing f index 0 0
indexing-none f index e = record { long = e; most = omega arith; below = λ i h. absurd (omega arith); all = refl }

module _ (f index : List ℕ) (n b : ℕ) (p : Indexing f index n b) (e : length f ≡ 256) (h : b < 256) where
  -- the word's number is stored, and counts where the word is not empty
  pub indexing-more : Indexing f (set index n b) (n + 1) (b + 1)
  indexing-more =
      let m = p.most in
      let l : n < length index = omega (arith, p.long) in
      let new : take (n + 1) (set index n b) ≡ take n index ++ (b ∷ []) = ap (λ (k : ℕ). take k (set index n b)) (add-one n) ∙ take-suc-set index n b l in
      record {
        long = length-set index n b ∙ p.long;
        most = omega arith;
        below = λ i lt. ⊎_elim (λ q. subst (λ (k : ℕ). get_or (set index n b) k 0 < 256) (sym q) (rw (get_or-set_same index n b 0 l) h))
            (λ o. rw (get_or-set_other index n i b 0 o) (p.below i (omega arith))) (same_or i n);
        all = ap (λ (ws : List ℕ). of_words f ws ++ rising (b + 1) (drop (b + 1) f)) new
            ∙ ap (λ (k : List ℕ). k ++ rising (b + 1) (drop (b + 1) f))
            (of-words-append f (take n index) (b ∷ []) ∙ ap (λ (k : List ℕ). of_words f (take n index) ++ k) (append-nil (masks_in b (get_or f b 0))))
            ∙ append_assoc (of_words f (take n index)) (masks_in b (get_or f b 0)) (rising (b + 1) (drop (b + 1) f))
            ∙ sym (ap (λ (k : List ℕ). of_words f (take n index) ++ k) (rising-drop f b (omega arith))) ∙ p.all;
      }

  pub indexing-same : get_or f b 0 ≡ 0 → Indexing f (set index n b) n (b + 1)
  indexing-same z =
      let m = p.most in
      let skip : rising b (drop b f) ≡ rising (b + 1) (drop (b + 1) f) =
      rising-drop f b (omega arith) ∙ ap (λ (k : List ℕ). k ++ rising (b + 1) (drop (b + 1) f)) (masks-none b (get_or f b 0) z) in
      record {
        long = length-set index n b ∙ p.long;
        most = omega arith;
        below = λ i lt. rw (get_or-set_other index n i b 0 (λ q. omega arith)) (p.below i lt);
        all = ap (λ (ws : List ℕ). of_words f ws ++ rising (b + 1) (drop (b + 1) f)) (take-set-le n index n b (omega arith))
            ∙ sym (ap (λ (k : List ℕ). of_words f (take n index) ++ k) skip) ∙ p.all;
      }

pub indexing-end : (f index : List ℕ) (n b : ℕ) → length f ≡ 256 → b ≡ 256 → Indexing f index n b → (n ≤ 256) × Occupied f (take n index)
indexing-end f index n b e z p =
    let some : n ≤ length index = omega (arith, p.most, p.long) in (
      omega (arith, p.most),
      record {
        below = λ i h. let l : i < n = omega (arith, length-take-le n index some) in rw (get_or-take n index i 0 l) (p.below i l);
        all = sym (append-nil (of_words f (take n index)))
            ∙ sym (ap (λ (k : List ℕ). of_words f (take n index) ++ k) (rising-end f b (omega arith))) ∙ p.all;
      },
    )

-- ---- the loop over these words, with those from place i on still to come

abbrev pub SizeWriting : (ℕ → ℕ) → ℕ → List ℕ → List ℕ → List ℕ → ℕ → List ℕ → ℕ → ℕ → Type 0
SizeWriting N s f ws entry at out next i = Writing entry at (map N (of_size s (of_words f ws))) (map N (of_size s (of_words f (drop i ws)))) out next

module _ (N : ℕ → ℕ) (s : ℕ) (f ws : List ℕ) (o : Occupied f ws) (entry : List ℕ) (at : ℕ) (out : List ℕ) (next i : ℕ)
    (w : SizeWriting N s f ws entry at out next i) where
  words-front : i < length ws → map N (of_size s (of_words f (drop i ws)))
      ≡ map N (of_size s (masks_in (get_or ws i 0) (get_or f (get_or ws i 0) 0))) ++ map N (of_size s (of_words f (drop (i + 1) ws)))
  words-front h =
      let b : ℕ = get_or ws i 0 in
      let here : drop i ws ≡ b ∷ drop (i + 1) ws = drop-cons ws i 0 h ∙ rw (add-one i) in
      ap (λ (l : List ℕ). map N (of_size s (of_words f l))) here
      ∙ ap (map N) (only-append (λ (m : ℕ). eqb (ones m) s) (masks_in b (get_or f b 0)) (of_words f (drop (i + 1) ws)))
      ∙ map-append N (of_size s (masks_in b (get_or f b 0))) (of_size s (of_words f (drop (i + 1) ws)))

  front : i < length ws → Writing entry at (map N (of_size s (of_words f ws)))
      (map N (of_size s (masks_in (get_or ws i 0) (get_or f (get_or ws i 0) 0))) ++ map N (of_size s (of_words f (drop (i + 1) ws)))) out next
  front h = subst (λ (l : List ℕ). Writing entry at (map N (of_size s (of_words f ws))) l out next) (words-front h) w

  pub size_room : i < length ws → at + length (of_size s (rising 0 f)) ≤ length entry
      → next + length (of_size s (masks_in (get_or ws i 0) (get_or f (get_or ws i 0) 0))) ≤ length out
  size_room h room =
      let here : List ℕ = of_size s (masks_in (get_or ws i 0) (get_or f (get_or ws i 0) 0)) in
      let all : List ℕ = of_size s (of_words f ws) in
      let e : length all ≡ length (of_size s (rising 0 f)) = ap (λ (l : List ℕ). length (of_size s l)) o.all in
      let l = length-map all N in
      let k = length-map here N in
      let r = writing-room entry at (map N all) (map N here) (map N (of_size s (of_words f (drop (i + 1) ws)))) out next (front h) (omega arith) in
      omega arith

  pub size-next : i < length ws → (after : List ℕ) (r : ℕ) → Wrote out next (map N (of_size s (masks_in (get_or ws i 0) (get_or f (get_or ws i 0) 0)))) after r
      → SizeWriting N s f ws entry at after r (i + 1)
  size-next h after r p =
      let rest : List ℕ = map N (of_size s (of_words f (drop (i + 1) ws))) in
      writing-part entry at _ (map N (of_size s (masks_in (get_or ws i 0) (get_or f (get_or ws i 0) 0)))) rest out next after r (front h) p

  pub size-end : length ws ≤ i → Wrote entry at (map N (of_size s (rising 0 f))) out next
  size-end past =
      let none : drop i ws ≡ [] = drop_of_length-le ws past in
      subst (λ (l : List ℕ). Wrote entry at (map N (of_size s l)) out next) o.all
      (writing-end entry at _ _ out next (ap (λ (l : List ℕ). map N (of_size s (of_words f l))) none) w)
