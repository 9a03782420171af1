-- The set of a mask, gathered from the lowest chosen vertex on: a chosen vertex takes the mask's lowest bit, and the others share the rest.
-- Assumes nothing.
use mathlib.Core.Path.{◌≡◌, refl, ◌∙◌}
use Prim.Native.Nat.{ℕ, zero, suc, ◌+◌, ◌-◌, ◌*◌, ◌/◌, ◌%◌, ◌^◌, ◌<◌}
use native.Mathlib.Nat.{pow-suc}
use native.Mathlib.Omega.{arith}
use lib.Count.{count_trailing_zeros}
use lib.Pow.{shl_exact}
use Rattle.vertex_set.proofs.Places.{member-le, lowest-member, lowest}
use Rattle.families.specs.Inner.Masks.{SetOfMask}
use Rattle.families.proofs.Masks.{spread, spread-even, spread-odd, by-parity, set-of}
use Rattle.family_lists.proofs.SetLists.{spread-small}

-- The lowest chosen vertex stands for the mask's lowest bit.
abbrev LowestTaken : ℕ → ℕ → ℕ → Type 0
LowestTaken k c m = spread k c m ≡ m % 2 * 2 ^ count_trailing_zeros k c + spread k (c - 2 ^ count_trailing_zeros k c) (m / 2)

taken-odd : (k c m : ℕ) → c % 2 ≡ 1 → LowestTaken (suc k) c m
unfolding count_trailing_zeros
taken-odd k c m odd =
    let e : (c - 1) / 2 ≡ c / 2 = omega arith in
    rw (odd, spread-odd k c m odd, spread-even k (c - 1) (m / 2) (omega arith), e) (omega arith)

taken-even : (k c m : ℕ) → c % 2 ≡ 0 → c / 2 < 2 ^ k → (c / 2 ≡ 0 → ⊥) → LowestTaken k (c / 2) m → LowestTaken (suc k) c m
unfolding count_trailing_zeros
taken-even k c m even l o ih =
    let t : ℕ = count_trailing_zeros k (c / 2) in
    let q = pow-suc 2 t in
    let h = member-le t (c / 2) (lowest-member k (c / 2) l o) in
    let e : (c - 2 ^ suc t) / 2 ≡ c / 2 - 2 ^ t = omega arith in
    let p : m % 2 * 2 ^ suc t ≡ 2 * (m % 2 * 2 ^ t) = rw q (omega arith) in
    rw (even, spread-even k c m even, spread-even k (c - 2 ^ suc t) (m / 2) (omega arith), e) (omega arith)

lowest-taken : (k c m : ℕ) → c < 2 ^ k → (c ≡ 0 → ⊥) → LowestTaken k c m
lowest-taken zero c m h n = absurd (n (omega arith))
lowest-taken (suc k) c m h n =
    let p = pow-suc 2 k in
    let l : c / 2 < 2 ^ k = omega arith in
    by-parity c
    (λ even.
    let z : c / 2 ≡ 0 → ⊥ = λ z. n (omega arith) in
    taken-even k c m even l z (lowest-taken k (c / 2) m l z))
    (λ odd. taken-odd k c m odd)

none-spread : (k c m : ℕ) → c ≡ 0 → spread k c m ≡ 0
unfolding spread
none-spread zero c m e = refl
none-spread (suc k) c m e =
    let ih = none-spread k (c / 2) m (omega arith) in
    spread-even k c m (omega arith) ∙ omega arith

-- The set gathered, and that of the bits left for the chosen vertices left, make the whole.
pub record Spreading (c m rest bits set : ℕ) : Type 0 where
  pub small : rest < 2 ^ 64
  pub value : set + spread 64 rest bits ≡ spread 64 c m

pub spreading-none : (c m : ℕ) → c < 2 ^ 64 → Spreading c m c m 0
spreading-none c m h = record { small = h; value = omega arith }

module _ (c m rest bits set : ℕ) (g : Spreading c m rest bits set) (n : rest ≡ 0 → ⊥) where
  -- the bit's vertex, as the machine shifts it
  shifted : (bits % 2 * 2 ^ count_trailing_zeros 64 rest) % 2 ^ 64 ≡ bits % 2 * 2 ^ count_trailing_zeros 64 rest
  shifted = let l = (lowest rest g.small n).below in shl_exact 1 (count_trailing_zeros 64 rest) 64 (omega arith) (omega arith)

  pub spreading-fits : c < 2 ^ 64 → set + (bits % 2 * 2 ^ count_trailing_zeros 64 rest) % 2 ^ 64 < 2 ^ 64
  spreading-fits h =
      let t = lowest-taken 64 rest bits g.small n in
      let b = spread-small c m h in
      let v = g.value in
      rw shifted (omega arith)

  pub spreading-more : Spreading c m (rest - (1 * 2 ^ count_trailing_zeros 64 rest) % 2 ^ 64) (bits / 2) (set + (bits % 2 * 2 ^ count_trailing_zeros 64 rest) % 2 ^ 64)
  spreading-more =
      let l = lowest rest g.small n in
      let t = lowest-taken 64 rest bits g.small n in
      let v = g.value in
      let s = g.small in
      rw (l.power, shifted) (record { small = omega arith; value = omega arith })

pub spreading-end : (c m rest bits set : ℕ) → c < 2 ^ 64 → rest ≡ 0 → Spreading c m rest bits set → SetOfMask c m set
spreading-end c m rest bits set h z g =
    let e = none-spread 64 rest bits z in
    let v = g.value in
    let i : set ≡ spread 64 c m = omega arith in
    rw i (set-of c m h)
