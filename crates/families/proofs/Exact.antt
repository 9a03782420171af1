-- Families that are exact for a predicate on sets: monotone, with minimal members that are the minimal sets.
-- Assumes nothing.
use mathlib.Core.Path.{◌≡◌, sym, ap, ◌∙◌}
use mathlib.Core.Logic.{⊎_elim}
use mathlib.Core.List.{List}
use Prim.Native.Nat.{ℕ, ◌+◌, ◌-◌, ◌*◌, ◌/◌, ◌%◌, ◌^◌, ◌≤◌, ◌<◌}
use native.Mathlib.Nat.{mod-lt}
use native.Mathlib.Omega.{arith}
use lib.Count.{ones, ones_cat, ones_step}
use lib.Pow.{pow_pos, pow_mono, pow-add, split}
use Rattle.vertex_set.specs.Set.{Member, Within}
use Rattle.vertex_set.proofs.Cases.{less-or}
use Rattle.vertex_set.proofs.Sets.{member_below, within-le, shifted_one}
use Rattle.vertex_set.proofs.Shifts.{in-low}
use Rattle.vertex_set.proofs.Subsets.{minimal-below}
use Rattle.families.specs.Inner.Family.{In, Monotone, Minimal, MinimalMembers, LeastBelow}
use Rattle.families.specs.Inner.Masks.{place_among, Picked}
use Rattle.families.specs.Inner.Exact.{OnChosen, FamilyOf, WordsFor}
use Rattle.families.proofs.Families.{in-or, minimal-least, least-minimal}

-- P keeps holding as the set grows.
abbrev pub Rising : ((ℕ → Type 0) → Type 0) → Type 1
Rising P = (A B : ℕ → Type 0) → ((v : ℕ) → A v → B v) → P A → P B

-- ---- every member has a minimal one within

pub minimal-within-mask : (f : List ℕ) (m : ℕ) → m < 16384 → In f m → (k : ℕ) × (k < 16384) × Within k m × Minimal f k
minimal-within-mask f m h i =
    let r = minimal-below (In f) (in-or f) m (omega arith) i in
    let le = within-le r.0 m r.1 in
    (r.0, omega arith, r.1, record { is = r.2; none = r.3 })

-- as the family of the minimal members has it
pub above-minimal : (f g : List ℕ) → MinimalMembers f g → (m : ℕ) → m < 16384 → In f m → (k : ℕ) × (k < 16384) × Within k m × In g k
above-minimal f g q m h i =
    let r = minimal-within-mask f m h i in
    (r.0, r.1, r.2, (q.least r.0 r.1).from (minimal-least f r.0 r.3))

-- ---- a mask's bits beyond the chosen vertices

pub place-lt : (c v : ℕ) → Member c v → place_among c v < ones c
unfolding place_among Member
place-lt c v m =
    let a : ones c ≡ ones (c / 2 ^ v) + ones (c % 2 ^ v) = ap ones (sym (split c v)) ∙ ones_cat v (c / 2 ^ v) (c % 2 ^ v) (mod-lt c (pow_pos v)) in
    let b = ones_step (c / 2 ^ v) in
    omega arith

-- the mask without them
low-within : (m n : ℕ) → Within (m % 2 ^ n) m
low-within m n = record { each = λ i k. (in-low n i m (member_below n (m % 2 ^ n) i (mod-lt m (pow_pos n)) k)).to k }

low-picked : (c m v : ℕ) → Picked c m v → Picked c (m % 2 ^ ones c) v
unfolding Picked
low-picked c m v p = (p.0, (in-low (ones c) (place_among c v) m (place-lt c v p.0)).from p.1)

-- ---- families of a predicate

module _ (c : ℕ) (P : (ℕ → Type 0) → Type 0) (up : Rising P) (f : List ℕ) (e : FamilyOf c P f) where
  pub family-monotone : Monotone f
  unfolding Picked
  family-monotone =
      record {
        up = λ k m hk hm w i. (e.each m hm).from (up (Picked c k) (Picked c m) (λ v p. (p.0, w.each (place_among c v) p.1)) ((e.each k hk).to i));
      }

  -- Minimal members have no bit beyond the chosen vertices,
  minimal-low : (m : ℕ) → m < 16384 → Minimal f m → m < 2 ^ ones c
  minimal-low m h least =
      let k : ℕ = m % 2 ^ ones c in
      let small = mod-lt m (pow_pos (ones c)) in
      let le = within-le k m (low-within m (ones c)) in
      ⊎_elim (λ l. l)
      (λ ge. absurd (least.none k
      (record { within = low-within m (ones c); other = λ z. omega arith })
      ((e.each k (omega arith)).from (up (Picked c m) (Picked c k) (low-picked c m) ((e.each m h).to least.is)))))
      (less-or m (2 ^ ones c))

  pub minimal-on-chosen : (g : List ℕ) → MinimalMembers f g → OnChosen c g
  minimal-on-chosen g q = record { below = λ m h i. minimal-low m h ((q.minimal family-monotone m h).to i) }

  -- so they are all in the words of the chosen vertices' masks.
  pub least-below : (n : ℕ) → WordsFor c n → LeastBelow n f
  least-below n w =
      record {
        place = w.place;
        below = λ m h l. let a = minimal-low m h (least-minimal f m family-monotone h l) in let b = w.all in omega arith;
      }

-- ---- the words that the masks of chosen vertices fill

pub words-few : (c : ℕ) → ones c ≤ 6 → WordsFor c 1
words-few c h = record { place = omega arith; all = pow_mono {i = ones c} {j = 6} h }

pub words-many : (c : ℕ) → 6 < ones c → ones c ≤ 14 → WordsFor c ((1 * 2 ^ (ones c - 6)) % 2 ^ 64)
words-many c h l =
    let e : ones c - 6 + 6 ≡ ones c = omega arith in
    let p : 2 ^ (ones c - 6 + 6) ≡ 2 ^ (ones c - 6) * 2 ^ 6 = pow-add 2 (ones c - 6) 6 in
    let q : 2 ^ ones c ≡ 2 ^ (ones c - 6) * 64 = ap (λ (n : ℕ). 2 ^ n) (sym e) ∙ p in
    rw (shifted_one (ones c - 6) (omega arith)) (record { place = pow_mono {i = ones c - 6} {j = 8} (omega arith); all = omega arith })
