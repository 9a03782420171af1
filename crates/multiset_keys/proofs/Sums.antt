-- Keys are sums of columns: the key of a set has at each threshold the count of the set's values at or above it. Tables of sums give them.
-- Assumes nothing.
use mathlib.Core.Path.{◌≡◌, refl, sym, ap, subst, ◌∙◌}
use mathlib.Core.Bool.{true}
use mathlib.Core.List.{List, [], ◌∷◌, map}
use mathlib.Core.Logic.{⊎_elim}
use Prim.Native.Nat.{ℕ, zero, suc, ◌+◌, ◌-◌, ◌*◌, ◌%◌, ◌^◌, ◌≤◌, ◌<◌}
use native.Mathlib.Omega.{arith}
use lib.Count.{ones, ones-le}
use lib.ListN.{length, get_or, drop, length-drop, get_or-eq_default}
use lib.Seq.{drop-cons, drop-length}
use Rattle.vertex_set.specs.Set.{Iff}
use Rattle.vertex_set.specs.Order.{Listed, sum_below, sum_over}
use Rattle.vertex_set.proofs.Cases.{less-or}
use Rattle.vertex_set.proofs.Digits.{digit, digit_lt}
use Rattle.vertex_set.proofs.Sorted.{map_same}
use Rattle.families.proofs.Masks.{spread, set-of}
use Rattle.family_lists.specs.Inner.Lists.{Summable}
use Rattle.multisets.specs.Multisets.{values_below, values_over}
use Rattle.multisets.specs.Meaning.{is_high, at_least}
use Rattle.multisets.proofs.Counts.{is-high, not-high, at-least-most}
use Rattle.multisets.proofs.Sets.{at-least-over, length-values}
use Rattle.multiset_keys.specs.Inner.{packed_counts, guards, high_marks, Columns, count_key_of, MaskKeys, KeyTables, CountKey, key_le}
use Rattle.multiset_keys.proofs.Lanes.{packed-key, packed-key-le, key-most}

-- ---- a value's column

is-high-most : (t x : ℕ) → is_high t x < 128
is-high-most t x = ⊎_elim (λ l. let e = not-high t x l in omega arith) (λ l. let e = is-high t x l in omega arith) (less-or x t)

pub is-high-small : (t x b : ℕ) → b ≡ is_high t x → b < 128
is-high-small t x b e = let h = is-high-most t x in omega arith

pub column-most : (thresholds : List ℕ) (value : ℕ) → length thresholds ≤ 7 → packed_counts (high_marks thresholds value) ≤ guards 7
column-most l value h = key-most _ (packed-key (λ t. is_high t value) (λ t. 0) (λ t. is-high-most t value) (λ t. omega arith) l h)

-- The lanes of the thresholds from k on are there.
pub record Pushing (thresholds : List ℕ) (value k key : ℕ) : Type 0 where
  pub inside : k ≤ length thresholds
  pub is : key ≡ packed_counts (high_marks (drop k thresholds) value)

module _ (l : List ℕ) (value : ℕ) where
  pub pushing-none : Pushing l value (length l) 0
  pushing-none = record { inside = omega arith; is = sym (ap (λ (q : List ℕ). packed_counts (high_marks q value)) (drop-length l)) }

  module _ (k key : ℕ) (p : Pushing l value k key) where
    -- six lanes at most are there before the last is pushed in
    pub pushing-room : length l ≤ 7 → 0 < k → (b : ℕ) → b < 128 → key * 256 + b < 2 ^ 64
    pushing-room h z b s =
        let n = length-drop k l in
        let i = p.inside in
        let m = rest-most (drop k l) (omega arith) in
        let e = p.is in omega arith
      where
        rest-most : (q : List ℕ) → length q ≤ 6 → packed_counts (high_marks q value) ≤ guards 6
        rest-most q g = lanes q 6 g
          where
            lanes : (r : List ℕ) (n : ℕ) → length r ≤ n → packed_counts (high_marks r value) ≤ guards n
            lanes [] n f = omega arith
            lanes (t ∷ r) zero f = absurd (omega arith)
            lanes (t ∷ r) (suc n) f = let a = is-high-most t value in let b = lanes r n (omega arith) in omega arith

    pub pushing-more : 0 < k → (b : ℕ) → b ≡ is_high (get_or l (k - 1) 0) value → Pushing l value (k - 1) (key * 256 + b)
    pushing-more z b e =
        let i = p.inside in
        let j : suc (k - 1) ≡ k = omega arith in
        let d : drop (k - 1) l ≡ get_or l (k - 1) 0 ∷ drop k l = drop-cons l (k - 1) 0 (omega arith) ∙ ap (λ (m : ℕ). get_or l (k - 1) 0 ∷ drop m l) j in
        let f = ap (λ (q : List ℕ). packed_counts (high_marks q value)) d in
        record { inside = omega arith; is = let g = p.is in omega arith }

  pub pushing-all : (k key : ℕ) → k ≡ 0 → Pushing l value k key → key ≡ packed_counts (high_marks l value)
  pushing-all k key z p = p.is ∙ ap (λ (j : ℕ). packed_counts (high_marks (drop j l) value)) z

-- the columns can be summed up
pub columns-sum-up : (chosen : ℕ) (values thresholds columns : List ℕ) → ones chosen ≤ 14 → Columns values thresholds columns
    → Summable chosen (λ (v : ℕ). get_or columns v 0)
columns-sum-up chosen values thresholds columns few c =
    record {
      few = few;
      small = λ v m. ⊎_elim (λ l. let e = c.each v l in let m = column-most thresholds (get_or values v 0) c.few in omega arith)
          (λ l. let e = get_or-eq_default columns 0 {n = v} (let w = c.long in omega arith) in omega arith) (less-or v 64);
    }

-- ---- a set's key has its counts

module _ (value : ℕ → ℕ) (x : ℕ) where
  sum-packed : (l : List ℕ) (n : ℕ) → sum_below (λ (v : ℕ). packed_counts (high_marks l (value v))) x n ≡ packed_counts (map (λ (t : ℕ). sum_below (λ (v : ℕ). is_high t (value v)) x n) l)
  sum-packed [] n = zeros n
    where
      zeros : (n : ℕ) → sum_below (λ (v : ℕ). 0) x n ≡ 0
      zeros zero = refl
      zeros (suc n) = let r = zeros n in omega arith
  sum-packed (t ∷ l) n = let r = sum-packed l n in let e = two n in omega arith
    where
      lane : (d a b : ℕ) → d < 2 → d * (a + 256 * b) ≡ d * a + 256 * (d * b)
      lane d a b h = ⊎_elim (λ k. let e : d ≡ 0 = omega arith in rw e (omega arith)) (λ k. let e : d ≡ 1 = omega arith in rw e (omega arith)) (less-or d 1)

      two : (n : ℕ) → sum_below (λ (v : ℕ). is_high t (value v) + 256 * packed_counts (high_marks l (value v))) x n
          ≡ sum_below (λ (v : ℕ). is_high t (value v)) x n + 256 * sum_below (λ (v : ℕ). packed_counts (high_marks l (value v))) x n
      two zero = refl
      two (suc n) = let r = two n in let k = lane (digit x n) (is_high t (value n)) (packed_counts (high_marks l (value n))) (digit_lt x n) in omega arith

  sum-over-packed : (l : List ℕ) → sum_over (λ (v : ℕ). packed_counts (high_marks l (value v))) x ≡ packed_counts (map (λ (t : ℕ). sum_over (λ (v : ℕ). is_high t (value v)) x) l)
  unfolding sum_over
  sum-over-packed l = sum-packed l 64

  key-packed : (l : List ℕ) → sum_over (λ (v : ℕ). packed_counts (high_marks l (value v))) x ≡ packed_counts (map (λ (t : ℕ). at_least (values_over value x) t) l)
  key-packed l = sum-over-packed l ∙ ap packed_counts (map_same _ _ l (λ t m. sym (at-least-over value x t)))

  few-values : length (values_over value x) ≤ 64
  unfolding values_over
  few-values = let l : x % 2 ^ 64 < 2 ^ 64 = omega arith in let a = length-values value x 64 in let b = ones-le 64 (x % 2 ^ 64) l in most (length (values_below value x 64)) (ones (x % 2 ^ 64)) a b
    where
      most : (p q : ℕ) → p ≡ q → q ≤ 64 → p ≤ 64
      most p q e h = omega arith

  count_small : (t : ℕ) → at_least (values_over value x) t < 128
  count_small t = let a = at-least-most (values_over value x) t in let b = few-values in omega arith

-- sums of values that agree below n are the same
sum_agrees : (value other : ℕ → ℕ) (x n : ℕ) → ((v : ℕ) → v < n → value v ≡ other v) → sum_below value x n ≡ sum_below other x n
sum_agrees value other x zero h = refl
sum_agrees value other x (suc n) h =
    ap (λ (k : ℕ). k + digit x n * value n) (sum_agrees value other x n (λ v l. h v (omega arith)))
    ∙ ap (λ (k : ℕ). sum_below other x n + digit x n * k) (h n (omega arith))

-- the key of a set of 64 vertices, by its counts
module _ (values thresholds columns : List ℕ) (c : Columns values thresholds columns) where
  columns-sum : (x : ℕ) → count_key_of columns x ≡ sum_over (λ (v : ℕ). packed_counts (high_marks thresholds (get_or values v 0))) x
  unfolding sum_over
  columns-sum x = sum_agrees (λ (v : ℕ). get_or columns v 0) (λ (v : ℕ). packed_counts (high_marks thresholds (get_or values v 0))) x 64 c.each

  key_counts : (x : ℕ) → count_key_of columns x ≡ packed_counts (map (λ (t : ℕ). at_least (values_over (λ (v : ℕ). get_or values v 0) x) t) thresholds)
  key_counts x = columns-sum x ∙ key-packed (λ (v : ℕ). get_or values v 0) x thresholds

  pub is_key : (x : ℕ) → CountKey (count_key_of columns x)
  is_key x =
      subst CountKey (sym (key_counts x))
      (packed-key (λ t. at_least (values_over (λ (v : ℕ). get_or values v 0) x) t) (λ t. 0) (count_small (λ (v : ℕ). get_or values v 0) x) (λ t. omega arith) thresholds c.few)

  -- keys compare as the counts at the thresholds do
  pub keys-compare : (x y : ℕ) → Iff (key_le (count_key_of columns x) (count_key_of columns y) ≡ true)
      ((t : ℕ) → Listed thresholds t → at_least (values_over (λ (v : ℕ). get_or values v 0) x) t ≤ at_least (values_over (λ (v : ℕ). get_or values v 0) y) t)
  keys-compare x y =
      subst (λ (k : ℕ). Iff (key_le k (count_key_of columns y) ≡ true) (Counts x y)) (sym (key_counts x))
      (subst (λ (k : ℕ). Iff (key_le (packed_counts (map (count x) thresholds)) k ≡ true) (Counts x y)) (sym (key_counts y))
      (packed-key-le (count x) (count y) (count_small (λ (v : ℕ). get_or values v 0) x) (count_small (λ (v : ℕ). get_or values v 0) y) thresholds c.few))
    where
      count : ℕ → ℕ → ℕ
      count z t = at_least (values_over (λ (v : ℕ). get_or values v 0) z) t

      Counts : ℕ → ℕ → Type 0
      Counts x y = (t : ℕ) → Listed thresholds t → count x t ≤ count y t

-- two tables of keys give keys
pub key-tables : (chosen : ℕ) (values thresholds low high : List ℕ) → MaskKeys chosen values thresholds low high → KeyTables low high
key-tables chosen values thresholds low high k =
    record {
      fit = k.sums.fit;
      keys = λ m l. subst CountKey (sym (k.sums.sum m (spread 64 chosen m) l (set-of chosen m k.sums.word)))
          (is_key values thresholds k.columns k.are (spread 64 chosen m));
    }
