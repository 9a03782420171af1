-- Lanes of 8 bits: packed lists compare lane by lane, and the free bits tell it by one subtraction.
-- Assumes nothing.
use mathlib.Core.Path.{◌≡◌, refl, sym, ap, ◌∙◌}
use mathlib.Core.Bool.{true, false}
use mathlib.Core.List.{List, [], ◌∷◌, map}
use mathlib.Core.Logic.{inl, inr, ⊎_elim}
use Prim.Native.Nat.{ℕ, zero, suc, ◌+◌, ◌-◌, ◌*◌, ◌/◌, ◌%◌, ◌^◌, ◌≤◌, ◌<◌}
use native.Mathlib.Omega.{arith}
use lib.Bits.{bit_and, and_block, and_zero_l, and_zero_r, and_self, and_le_r}
use lib.Dec.{leb, eqb}
use lib.ListN.{length}
use borrow.Author.Tests.{eq-eqb, ne_eqb}
use Rattle.vertex_set.specs.Set.{Iff}
use Rattle.vertex_set.specs.Order.{Listed}
use Rattle.vertex_set.proofs.Cases.{by_test, less-or, same_or}
use Rattle.vertex_set.proofs.Decisions.{decide-leb, and_parts, and_both}
use Rattle.multiset_keys.specs.Inner.{packed_counts, lanes_le, SmallLanes, guards, CountKey, key_le}

-- ---- the test by the free bits

pub lanes-most : (n a : ℕ) → SmallLanes n a → a ≤ guards n
lanes-most zero a h = omega arith
lanes-most (suc n) a h = let k = h.0 in let r = lanes-most n (a / 256) h.1 in omega arith

guard-high : (v : ℕ) → v < 256 → 128 ≤ v → bit_and v 128 ≡ 128
guard-high v h k =
    let e : v ≡ 1 * 2 ^ 7 + v % 128 = omega arith in
    let b : bit_and (1 * 2 ^ 7 + v % 128) (1 * 2 ^ 7 + 0) ≡ bit_and 1 1 * 2 ^ 7 + bit_and (v % 128) 0 = and_block 7 1 1 (v % 128) 0 (omega arith) (omega arith) in
    let s = and_self 1 in
    let z = and_zero_r (v % 128) in
    ap (λ (x : ℕ). bit_and x 128) e ∙ (b ∙ omega (arith, s, z))

guard-low : (v : ℕ) → v < 128 → bit_and v 128 ≡ 0
guard-low v h =
    let e : v ≡ 0 * 2 ^ 7 + v = omega arith in
    let b : bit_and (0 * 2 ^ 7 + v) (1 * 2 ^ 7 + 0) ≡ bit_and 0 1 * 2 ^ 7 + bit_and v 0 = and_block 7 0 1 v 0 (omega arith) (omega arith) in
    let s = and_zero_l 1 in
    let z = and_zero_r v in
    ap (λ (x : ℕ). bit_and x 128) e ∙ (b ∙ omega (arith, s, z))

-- one lane more
block : (x g v : ℕ) → v < 256 → bit_and (v + 256 * x) (128 + 256 * g) ≡ bit_and x g * 256 + bit_and v 128
block x g v h =
    let e : v + 256 * x ≡ x * 2 ^ 8 + v = omega arith in
    let f : 128 + 256 * g ≡ g * 2 ^ 8 + 128 = omega arith in
    rw (e, f) (and_block 8 x g v 128 h (omega arith))

lane-kept : (x g y : ℕ) → y ≡ 128 → eqb (x * 256 + y) (128 + 256 * g) ≡ eqb x g
lane-kept x g y e =
    ⊎_elim (λ q. eq-eqb (x * 256 + y) (128 + 256 * g) (omega arith) ∙ sym (eq-eqb x g q))
    (λ q. ne_eqb (x * 256 + y) (128 + 256 * g) (λ z. q (omega arith)) ∙ sym (ne_eqb x g q)) (same_or x g)

lane-lost : (x g y : ℕ) → y ≡ 0 → x ≤ g → eqb (x * 256 + y) (128 + 256 * g) ≡ false
lane-lost x g y e l = ne_eqb (x * 256 + y) (128 + 256 * g) (λ z. omega arith)

taken-off : (n a b : ℕ) → SmallLanes (suc n) a → (b + (128 + 256 * guards n)) - a ≡ ((b % 256 + 128) - a % 256) + 256 * ((b / 256 + guards n) - a / 256)
taken-off n a b h = let k = h.0 in let l = lanes-most n (a / 256) h.1 in omega arith

pub guards-tell : (n a b : ℕ) → SmallLanes n a → SmallLanes n b → eqb (bit_and ((b + guards n) - a) (guards n)) (guards n) ≡ lanes_le n a b
guards-tell zero a b h k = rw (h, k) refl
guards-tell (suc n) a b h k =
    let r = guards-tell n (a / 256) (b / 256) h.1 k.1 in
    let x : ℕ = (b / 256 + guards n) - a / 256 in
    let v : ℕ = (b % 256 + 128) - a % 256 in
    let p = h.0 in
    let q = k.0 in
    let small : v < 256 = omega arith in
    let e : bit_and ((b + (128 + 256 * guards n)) - a) (128 + 256 * guards n) ≡ bit_and x (guards n) * 256 + bit_and v 128 =
    ap (λ (z : ℕ). bit_and z (128 + 256 * guards n)) (taken-off n a b h) ∙ block x (guards n) v small in
    ap (λ (z : ℕ). eqb z (128 + 256 * guards n)) e
    ∙ by_test (leb (a % 256) (b % 256))
    (λ t. let l = (decide-leb (a % 256) (b % 256)).yes t in
    rw t (lane-kept (bit_and x (guards n)) (guards n) (bit_and v 128) (guard-high v small (omega arith)) ∙ r))
    (λ t. let l = (decide-leb (a % 256) (b % 256)).no t in
    rw t (lane-lost (bit_and x (guards n)) (guards n) (bit_and v 128) (guard-low v (below (a % 256) (b % 256) l)) (and_le_r x (guards n))))
  where
    below : (c d : ℕ) → (c ≤ d → ⊥) → (d + 128) - c < 128
    below c d n = ⊎_elim (λ l. absurd (n (omega arith))) (λ l. strict l) (less-or c d)
      where
        strict : d ≤ c → (d + 128) - c < 128
        strict l = ⊎_elim (λ e. absurd (n (omega arith))) (λ e. omega (arith, e)) (same_or c d)

pub key-tells : (a b : ℕ) → CountKey a → CountKey b → eqb (bit_and ((b + guards 7) - a) (guards 7)) (guards 7) ≡ key_le a b
unfolding CountKey key_le
key-tells a b h k = guards-tell 7 a b h k

pub key-most : (a : ℕ) → CountKey a → a ≤ guards 7
unfolding CountKey
key-most a h = lanes-most 7 a h

-- ---- an order

lanes-refl : (n a : ℕ) → lanes_le n a a ≡ true
lanes-refl zero a = refl
lanes-refl (suc n) a =
    by_test (leb (a % 256) (a % 256)) (λ t. rw t (lanes-refl n (a / 256))) (λ t. absurd ((decide-leb (a % 256) (a % 256)).no t (omega arith)))

leb_yes : (a b : ℕ) → a ≤ b → leb a b ≡ true
leb_yes a b l = by_test (leb a b) (λ t. t) (λ t. absurd ((decide-leb a b).no t l))

lanes-trans : (n a b c : ℕ) → lanes_le n a b ≡ true → lanes_le n b c ≡ true → lanes_le n a c ≡ true
lanes-trans zero a b c h k = refl
lanes-trans (suc n) a b c h k =
    let p = and_parts _ _ h in
    let q = and_parts _ _ k in
    let x = (decide-leb (a % 256) (b % 256)).yes p.0 in
    let y = (decide-leb (b % 256) (c % 256)).yes q.0 in
    and_both _ _ (leb_yes (a % 256) (c % 256) (omega arith)) (lanes-trans n (a / 256) (b / 256) (c / 256) p.1 q.1)

pub key-refl : (a : ℕ) → key_le a a ≡ true
unfolding key_le
key-refl a = lanes-refl 7 a

pub key-trans : (a b c : ℕ) → key_le a b ≡ true → key_le b c ≡ true → key_le a c ≡ true
unfolding key_le
key-trans a b c h k = lanes-trans 7 a b c h k

-- ---- packed lists

module _ (f g : ℕ → ℕ) (small : (t : ℕ) → f t < 128) (low : (t : ℕ) → g t < 128) where
  packed-lanes : (n : ℕ) (l : List ℕ) → length l ≤ n → SmallLanes n (packed_counts (map f l))
  packed-lanes zero [] h = refl
  packed-lanes zero (t ∷ l) h = absurd (omega arith)
  packed-lanes (suc n) [] h = (omega arith, packed-lanes n [] (omega arith))
  packed-lanes (suc n) (t ∷ l) h =
      let s = small t in
      let r = packed-lanes n l (omega arith) in
      let e : (f t + 256 * packed_counts (map f l)) / 256 ≡ packed_counts (map f l) = omega arith in
      (omega arith, rw e r)

  pub packed-key : (l : List ℕ) → length l ≤ 7 → CountKey (packed_counts (map f l))
  unfolding CountKey
  packed-key l h = packed-lanes 7 l h

  packed-le : (n : ℕ) (l : List ℕ) → length l ≤ n → Iff (lanes_le n (packed_counts (map f l)) (packed_counts (map g l)) ≡ true) ((t : ℕ) → Listed l t → f t ≤ g t)
  packed-le n [] h = record { to = λ e t m. absurd m; from = λ e. lanes-refl n 0 }
  packed-le zero (t ∷ l) h = absurd (omega arith)
  packed-le (suc n) (t ∷ l) h =
      let s = small t in
      let k = low t in
      let r = packed-le n l (omega arith) in
      let a : (f t + 256 * packed_counts (map f l)) / 256 ≡ packed_counts (map f l) = omega arith in
      let b : (g t + 256 * packed_counts (map g l)) / 256 ≡ packed_counts (map g l) = omega arith in
      let c : (f t + 256 * packed_counts (map f l)) % 256 ≡ f t = omega arith in
      let d : (g t + 256 * packed_counts (map g l)) % 256 ≡ g t = omega arith in
      rw (a, b, c, d)
      (record {
        to = λ e u. let p = and_parts _ _ e in ⊎_elim (λ q. rw q ((decide-leb (f t) (g t)).yes p.0)) (λ m. r.to p.1 u m);
        from = λ e. and_both _ _ (leb_yes _ _ (e t (inl refl))) (r.from (λ u m. e u (inr m)));
      })

  pub packed-key-le : (l : List ℕ) → length l ≤ 7 → Iff (key_le (packed_counts (map f l)) (packed_counts (map g l)) ≡ true) ((t : ℕ) → Listed l t → f t ≤ g t)
  unfolding key_le
  packed-key-le l h = packed-le 7 l h
