-- Sums of weights at a mask's bits: by tables of seven bits each, and as sums of values over the mask's set.
-- Assumes nothing.
use mathlib.Core.Path.{◌≡◌, refl, sym, ap, ◌∙◌, subst}
use mathlib.Core.List.{List, [], ◌∷◌, ◌++◌, map, map-map, map-append, append-nil}
use Prim.Native.Nat.{ℕ, zero, suc, ◌+◌, ◌-◌, ◌*◌, ◌/◌, ◌%◌, ◌^◌, ◌≤◌, ◌<◌}
use native.Mathlib.Nat.{pow-suc, mul_comm, div-div-eq-div-mul, mul-mod_left}
use native.Mathlib.Omega.{arith}
use lib.Count.{ones, count_trailing_zeros}
use lib.ListN.{length, get_or, drop, set, replicate, length-replicate, length-append, length-map}
use lib.Seq.{set_at, append_snoc, get_or-set_same, get_or-drop}
use lib.Pow.{shl-shr}
use Rattle.vertex_set.specs.Set.{Member}
use Rattle.vertex_set.specs.Order.{sum_below, sum_over}
use Rattle.vertex_set.proofs.Sets.{member_below, shifted_one}
use Rattle.vertex_set.proofs.Places.{in-first, in-later, member-le, places, places-odd, places-even, places-none, Lowest, lowest}
use Rattle.vertex_set.proofs.Shifts.{low_first, low_half}
use Rattle.vertex_set.proofs.Sums.{sum_first}
use Rattle.vertex_set.proofs.Filling.{fill_more}
use Rattle.families.proofs.Masks.{spread, spread-even, spread-odd, by-parity, set_is}
use Rattle.sums.specs.Inner.Sums.{sum_at, WeightsOf, SumsFit}

-- ---- sums at a mask's bits

pub at_none : (ws : List ℕ) (m : ℕ) → m ≡ 0 → sum_at ws m ≡ 0
at_none [] m e = refl
at_none (w ∷ ws) m e =
    let ih = at_none ws (m / 2) (omega arith) in
    let d : m % 2 ≡ 0 = omega arith in
    rw d (omega arith)

-- one bit less
pub at-removed : (ws : List ℕ) (i k : ℕ) → Member k i → sum_at ws k ≡ sum_at ws (k - 2 ^ i) + get_or ws i 0
at-removed [] i k m = refl
at-removed (w ∷ ws) zero k m =
    let odd = (in-first k).to m in
    let e : (k - 1) / 2 ≡ k / 2 = omega arith in
    let f : (k - 1) % 2 ≡ 0 = omega arith in
    rw (odd, e, f) (omega arith)
at-removed (w ∷ ws) (suc i) k m =
    let n = (in-later k i).to m in
    let le = member-le i (k / 2) n in
    let p = pow-suc 2 i in
    let e : (k - 2 ^ suc i) / 2 ≡ k / 2 - 2 ^ i = omega arith in
    let f : (k - 2 ^ suc i) % 2 ≡ k % 2 = omega arith in
    rw (e, f, at-removed ws i (k / 2) n) (omega arith)

-- the low n bits, and the others
pub at_split : (n : ℕ) (ws : List ℕ) (m : ℕ) → sum_at ws m ≡ sum_at ws (m % 2 ^ n) + sum_at (drop n ws) (m / 2 ^ n)
at_split zero ws m =
    let e : m / 1 ≡ m = omega arith in
    let z = at_none ws (m % 1) (omega arith) in
    rw (e, z) (omega arith)
at_split (suc n) [] m = refl
at_split (suc n) (w ∷ ws) m =
    let ih = at_split n ws (m / 2) in
    let e : m / 2 / 2 ^ n ≡ m / 2 ^ suc n = div-div-eq-div-mul m 2 (2 ^ n) ∙ ap (λ (k : ℕ). m / k) (mul_comm 2 (2 ^ n) ∙ sym (pow-suc 2 n)) in
    rw (low_first m n, low_half m n, ← e) (omega arith)

pub at_high : (n : ℕ) (ws : List ℕ) (a : ℕ) → sum_at ws (a * 2 ^ n) ≡ sum_at (drop n ws) a
at_high n ws a =
    let z = at_none ws (a * 2 ^ n % 2 ^ n) (mul-mod_left a (2 ^ n)) in
    at_split n ws (a * 2 ^ n) ∙ rw (shl-shr a n, z) (omega arith)

pub at-zeros : (ws : List ℕ) (n m : ℕ) → sum_at (ws ++ replicate n 0) m ≡ sum_at ws m
at-zeros [] zero m = refl
at-zeros [] (suc n) m = let ih = at-zeros [] n (m / 2) in omega arith
at-zeros (w ∷ ws) n m = rw (at-zeros ws n (m / 2))

-- at the chosen vertices' values: the sum over the mask's set
pub at-spread : (k c m : ℕ) (value : ℕ → ℕ) → sum_below value (spread k c m) k ≡ sum_at (map value (places k c)) m
unfolding places
at-spread zero c m value = refl
at-spread (suc k) c m value =
    by-parity c
    (λ even.
    let s = spread-even k c m even in
    let h : spread (suc k) c m / 2 ≡ spread k (c / 2) m = omega arith in
    let z : spread (suc k) c m % 2 ≡ 0 = omega arith in
    let ih = at-spread k (c / 2) m (λ (v : ℕ). value (suc v)) in
    sum_first value k (spread (suc k) c m) ∙ rw (h, z, places-even k c even, map-map value suc (places k (c / 2))) (omega arith))
    (λ odd.
    let s = spread-odd k c m odd in
    let h : spread (suc k) c m / 2 ≡ spread k (c / 2) (m / 2) = omega arith in
    let z : spread (suc k) c m % 2 ≡ m % 2 = omega arith in
    let ih = at-spread k (c / 2) (m / 2) (λ (v : ℕ). value (suc v)) in
    sum_first value k (spread (suc k) c m) ∙ rw (h, z, places-odd k c odd, map-map value suc (places k (c / 2))) (omega arith))

-- ---- the loop that takes the chosen vertices' values, lowest first

pub record Weighing (c : ℕ) (value : ℕ → ℕ) (rest n : ℕ) (ws : List ℕ) : Type 0 where
  pub done : List ℕ
  pub small : rest < 2 ^ 64
  pub split : done ++ places 64 rest ≡ places 64 c
  pub count : length done ≡ n
  pub left : n + ones rest ≡ ones c
  pub weights : ws ≡ map value done ++ replicate (14 - n) 0

pub weighing-none : (c : ℕ) (value : ℕ → ℕ) → c < 2 ^ 64 → Weighing c value c 0 (replicate 14 0)
weighing-none c value h = record { done = []; small = h; split = refl; count = refl; left = omega arith; weights = refl }

pub weighing-more : (c : ℕ) (value : ℕ → ℕ) (rest n : ℕ) (ws : List ℕ) → n < 14 → (rest ≡ 0 → ⊥) → Weighing c value rest n ws
    → Weighing c value (rest - (1 * 2 ^ count_trailing_zeros 64 rest) % 2 ^ 64) (n + 1) (set ws n (value (count_trailing_zeros 64 rest)))
weighing-more c value rest n ws h ne g =
    let l = lowest rest g.small ne in
    let v : ℕ = count_trailing_zeros 64 rest in
    let e : 14 - n ≡ suc (14 - (n + 1)) = omega arith in
    let long : length (map value g.done) ≡ n = length-map g.done value ∙ g.count in
    rw l.power
    (record {
      done = g.done ++ (v ∷ []);
      small = omega (arith, g.small);
      split = append_snoc g.done v (places 64 (rest - 2 ^ v)) ∙ sym (ap (λ (k : List ℕ). g.done ++ k) l.list) ∙ g.split;
      count = length-append g.done (v ∷ []) ∙ ap (λ (k : ℕ). k + 1) g.count;
      left = omega (arith, l.count, g.left);
      weights = ap (λ (k : List ℕ). set k n (value v)) (g.weights ∙ ap (λ (k : ℕ). map value g.done ++ replicate k 0) e)
          ∙ set_at (map value g.done) 0 (replicate (14 - (n + 1)) 0) (value v) n long
          ∙ sym (append_snoc (map value g.done) (value v) (replicate (14 - (n + 1)) 0))
          ∙ ap (λ (k : List ℕ). k ++ replicate (14 - (n + 1)) 0) (sym (map-append value g.done (v ∷ [])));
    })

pub weighing-end : (c : ℕ) (value : ℕ → ℕ) (rest n : ℕ) (ws : List ℕ) → c < 2 ^ 64 → n ≤ 14 → rest ≡ 0 → Weighing c value rest n ws → WeightsOf c value ws
unfolding sum_over
weighing-end c value rest n ws h few z g =
    let d : g.done ≡ places 64 c = sym (append-nil g.done) ∙ ap (λ (k : List ℕ). g.done ++ k) (sym (places-none 64 rest z)) ∙ g.split in
    let long : length (map value g.done) ≡ n = length-map g.done value ∙ g.count in
    record {
      long = ap length g.weights ∙ length-append (map value g.done) (replicate (14 - n) 0)
          ∙ rw (length-replicate {A = ℕ} (14 - n) 0, long) (omega arith);
      sum = λ m x s.
          ap (λ (k : List ℕ). sum_at k m) g.weights ∙ at-zeros (map value g.done) (14 - n) m
          ∙ ap (λ (k : List ℕ). sum_at (map value k) m) d ∙ sym (at-spread 64 c m value)
          ∙ ap (λ (y : ℕ). sum_below value y 64) (sym (set_is c m x h s));
    }

-- ---- the loop that fills a table of sums

-- The first k sums of the weights from n on are there.
pub record Filling (ws : List ℕ) (n k : ℕ) (t : List ℕ) : Type 0 where
  pub each : (j : ℕ) → j < k → get_or t j 0 ≡ sum_at (drop n ws) j

pub filling-first : (ws : List ℕ) (n : ℕ) (t : List ℕ) → 0 < length t → Filling ws n 1 (set t 0 0)
filling-first ws n t h =
    record { each = λ j l. let e : j ≡ 0 = omega arith in rw (at_none (drop n ws) j e, e) (get_or-set_same t 0 0 0 h) }

module _ (ws : List ℕ) (n k : ℕ) (t : List ℕ) (h : k < 128) (ne : k ≡ 0 → ⊥) where
  -- the place of the lowest bit of k
  pub lowest-place : (count_trailing_zeros 64 k < 7) × Lowest k
  lowest-place =
      let l = lowest k (omega arith) ne in
      (member_below 7 k (count_trailing_zeros 64 k) h l.member, l)

  -- what comes to stand at k
  pub next-sum : Filling ws n k t → get_or t (k - (1 * 2 ^ count_trailing_zeros 64 k) % 2 ^ 64) 0 + get_or ws (n + count_trailing_zeros 64 k) 0 ≡ sum_at (drop n ws) k
  next-sum g =
      let l = lowest-place.1 in
      rw (l.power, g.each (k - 2 ^ count_trailing_zeros 64 k) (omega arith), ← get_or-drop n ws (count_trailing_zeros 64 k) 0)
      (sym (at-removed (drop n ws) (count_trailing_zeros 64 k) k l.member))

  pub filling-more : k < length t → Filling ws n k t
      → Filling ws n (k + 1) (set t k (get_or t (k - (1 * 2 ^ count_trailing_zeros 64 k) % 2 ^ 64) 0 + get_or ws (n + count_trailing_zeros 64 k) 0))
  filling-more hk g =
      rw (next-sum g)
      (record {
        each = fill_more 0 (λ j y. y ≡ sum_at (drop n ws) j) t k (sum_at (drop n ws) k) hk g.each refl;
      })

-- no sum that the table holds is too large
pub sum_fits : (ws : List ℕ) (n k : ℕ) → SumsFit ws → sum_at (drop n ws) k < 2 ^ 64
sum_fits ws n k f = subst (λ (x : ℕ). x < 2 ^ 64) (at_high n ws k) (f.fits (k * 2 ^ n))

-- ---- set numbers one by one

-- the next of them is stored
pub singles-more : (values : List ℕ) (n : ℕ) → n < 64 → n < length values → ((v : ℕ) → v < n → get_or values v 0 ≡ 2 ^ v)
    → (v : ℕ) → v < n + 1 → get_or (set values n ((1 * 2 ^ n) % 2 ^ 64)) v 0 ≡ 2 ^ v
singles-more values n h l p v lt =
    rw (shifted_one n h) (fill_more 0 (λ u y. y ≡ 2 ^ u) values n (2 ^ n) l p refl v lt)
