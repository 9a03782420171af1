-- A word turned round by six exchanges of lanes, and the words of a dual family.
-- Assumes nothing.
use mathlib.Core.Path.{◌≡◌, refl, subst, ◌∙◌}
use mathlib.Core.Bool.{true, cond}
use mathlib.Core.List.{List}
use mathlib.Core.Logic.{inl, inr, ⊎_elim}
use Prim.Native.Nat.{ℕ, ◌+◌, ◌-◌, ◌*◌, ◌/◌, ◌%◌, ◌^◌, ◌≤◌, ◌<◌}
use native.Mathlib.Omega.{arith}
use lib.Bits.{bit_and, bit_or}
use lib.Dec.{eqb, ltb, leb}
use lib.ListN.{length, get_or, set, length-set}
use borrow.Author.Tests.{eqb-true, ltb-true, leb-true, eq-eqb, ne_eqb}
use Rattle.vertex_set.specs.Set.{Member, Iff}
use Rattle.vertex_set.proofs.Decisions.{iff-refl, iff-trans}
use Rattle.vertex_set.proofs.Digits.{digit}
use Rattle.vertex_set.proofs.Sets.{member-or, not-member, in_and, in-or, in-not}
use Rattle.vertex_set.proofs.Shifts.{in-low, in-high, in-shifted, all, all-at}
use Rattle.vertex_set.proofs.Filling.{fill_more}
use Rattle.families.specs.Inner.Family.{In}
use Rattle.cut_sets.specs.Inner.{TurnedRound, DualWord, Dual}

-- ---- one exchange of lanes

-- Each lane of `high` gets the lane k below it, and each lane of `low` the lane k above it.
abbrev exchanged : ℕ → ℕ → ℕ → ℕ → ℕ
exchanged k low high x = bit_or (bit_and (x / 2 ^ k) low) (bit_and ((x * 2 ^ k) % 2 ^ 64) high)

-- The lane that the lane i gets.
source : ℕ → ℕ → ℕ → ℕ
source k high i = cond (eqb (digit high i) 1) (i - k) (k + i)

-- Each lane is in one of the two patterns, and gets a lane of the word.
record Exchange (k low high : ℕ) : Type 0 where
  either : all (λ (i : ℕ). eqb (digit low i + digit high i) 1) 64 ≡ true
  room : all (λ (i : ℕ). leb (k * digit high i) i) 64 ≡ true
  inside : all (λ (i : ℕ). ltb (source k high i) 64) 64 ≡ true

room_at : (k d i : ℕ) → d ≡ 1 → k * d ≤ i → k ≤ i
room_at k d i e l = let z : k * 1 ≤ i = rw e at l in omega arith

module _ (k low high x i : ℕ) (t : Exchange k low high) (h : i < 64) where
  source-below : source k high i < 64
  source-below = ltb-true _ _ (all-at (λ (i : ℕ). ltb (source k high i) 64) 64 t.inside i h)

  in-exchanged : Iff (Member (exchanged k low high x) i) (Member x (source k high i))
  unfolding Member source
  in-exchanged =
      let one : digit low i + digit high i ≡ 1 = eqb-true (digit low i + digit high i) 1 (all-at (λ (i : ℕ). eqb (digit low i + digit high i) 1) 64 t.either i h) in
      let le : k * digit high i ≤ i = leb-true (k * digit high i) i (all-at (λ (i : ℕ). leb (k * digit high i) i) 64 t.room i h) in
      let o = in-or (bit_and (x / 2 ^ k) low) (bit_and ((x * 2 ^ k) % 2 ^ 64) high) i in
      let l = in_and (x / 2 ^ k) low i in
      let u = in_and ((x * 2 ^ k) % 2 ^ 64) high i in
      let cut = in-low 64 i (x * 2 ^ k) h in
      let up = in-shifted k i x in
      let down = in-high k i x in
      ⊎_elim
      (λ m. rw (eq-eqb (digit high i) 1 m) (record {
        to = λ a. ⊎_elim (λ b. absurd (let z : digit low i ≡ 1 = (l.to b).1 in omega (arith, m))) (λ b. (up.to (cut.to (u.to b).0)).1) (o.to a);
        from = λ a. o.from (inr (u.from (cut.from (up.from (room_at k (digit high i) i m le, a)), m)));
      }))
      (λ n. rw (ne_eqb (digit high i) 1 n) (record {
        to = λ a. ⊎_elim (λ b. down.to (l.to b).0) (λ b. absurd (n (u.to b).1)) (o.to a);
        from = λ a. o.from (inl (l.from (down.from a, let z = not-member high i n in omega arith)));
      }))
      (member-or high i)

-- ---- six of them turn a word round

abbrev pub turned : ℕ → ℕ
turned x =
    exchanged 32 0x0000_0000_FFFF_FFFF 0xFFFF_FFFF_0000_0000
    (exchanged 16 0x0000_FFFF_0000_FFFF 0xFFFF_0000_FFFF_0000
    (exchanged 8 0x00FF_00FF_00FF_00FF 0xFF00_FF00_FF00_FF00
    (exchanged 4 0x0F0F_0F0F_0F0F_0F0F 0xF0F0_F0F0_F0F0_F0F0
    (exchanged 2 0x3333_3333_3333_3333 0xCCCC_CCCC_CCCC_CCCC
    (exchanged 1 0x5555_5555_5555_5555 0xAAAA_AAAA_AAAA_AAAA x)))))

-- The lanes of r are those of x, each from the lane that `lane` names.
record Sends (x r : ℕ) (lane : ℕ → ℕ) : Type 0 where
  each : (i : ℕ) → i < 64 → Iff (Member r i) (Member x (lane i))

sends-same : (x : ℕ) → Sends x x (λ i. i)
sends-same x = record { each = λ i h. iff-refl }

sends-next : (k low high x r : ℕ) (lane : ℕ → ℕ) → Exchange k low high → Sends x r lane → Sends x (exchanged k low high r) (λ i. lane (source k high i))
sends-next k low high x r lane t s =
    record { each = λ i h. iff-trans (in-exchanged k low high r i t h) (s.each (source k high i) (source-below k low high r i t h)) }

lanes : ℕ → ℕ
lanes i =
    source 1 0xAAAA_AAAA_AAAA_AAAA (source 2 0xCCCC_CCCC_CCCC_CCCC (source 4 0xF0F0_F0F0_F0F0_F0F0
    (source 8 0xFF00_FF00_FF00_FF00 (source 16 0xFFFF_0000_FFFF_0000 (source 32 0xFFFF_FFFF_0000_0000 i)))))

sends-lanes : (x : ℕ) → Sends x (turned x) lanes
unfolding lanes source
sends-lanes x =
    sends-next 32 0x0000_0000_FFFF_FFFF 0xFFFF_FFFF_0000_0000 x _ _ (record { either = refl; room = refl; inside = refl })
    (sends-next 16 0x0000_FFFF_0000_FFFF 0xFFFF_0000_FFFF_0000 x _ _ (record { either = refl; room = refl; inside = refl })
    (sends-next 8 0x00FF_00FF_00FF_00FF 0xFF00_FF00_FF00_FF00 x _ _ (record { either = refl; room = refl; inside = refl })
    (sends-next 4 0x0F0F_0F0F_0F0F_0F0F 0xF0F0_F0F0_F0F0_F0F0 x _ _ (record { either = refl; room = refl; inside = refl })
    (sends-next 2 0x3333_3333_3333_3333 0xCCCC_CCCC_CCCC_CCCC x _ _ (record { either = refl; room = refl; inside = refl })
    (sends-next 1 0x5555_5555_5555_5555 0xAAAA_AAAA_AAAA_AAAA x x (λ i. i) (record { either = refl; room = refl; inside = refl }) (sends-same x))))))

-- six exchanges, and each lane comes from the opposite one
opposite : all (λ (i : ℕ). eqb (lanes i) (63 - i)) 64 ≡ true
unfolding lanes source
opposite = refl

pub turned_round : (x : ℕ) → TurnedRound x (turned x)
turned_round x =
    record {
      each = λ i h.
          let e = eqb-true _ _ (all-at (λ (i : ℕ). eqb (lanes i) (63 - i)) 64 opposite i h) in
          subst (λ (j : ℕ). Iff (Member (turned x) i) (Member x j)) e ((sends-lanes x).each i h);
    }

-- ---- the words of a dual family

pub dual-word : (f : List ℕ) (b x : ℕ) → x < 2 ^ 64 → TurnedRound (get_or f (255 - b) 0) x → DualWord f b ((2 ^ 64 - 1) - x)
dual-word f b x l t =
    record {
      each = λ i h.
          let n = in-not x i l h in
          let o = t.each i h in
          record { to = λ m k. n.to m (o.from k); from = λ q. n.from (λ m. q (o.to m)) };
    }

-- The words before b are those of the dual.
pub record DualBelow (f g : List ℕ) (b : ℕ) : Type 0 where
  pub words : length g ≡ 256
  pub done : (k : ℕ) → k < b → DualWord f k (get_or g k 0)

pub below_none : (f g : List ℕ) → length g ≡ 256 → DualBelow f g 0
below_none f g e = record { words = e; done = λ k l. absurd (omega arith) }

pub below_more : (f g : List ℕ) (b r : ℕ) → b < 256 → DualBelow f g b → DualWord f b r → DualBelow f (set g b r) (b + 1)
below_more f g b r l p w =
    record {
      words = length-set g b r ∙ p.words;
      done = fill_more 0 (DualWord f) g b r (let z = p.words in omega arith) p.done w;
    }

pub below_all : (f g : List ℕ) (b : ℕ) → 256 ≤ b → DualBelow f g b → Dual f g
unfolding In
below_all f g b l p =
    record {
      words = p.words;
      each = λ m h.
          let e : (16384 - 1 - m) / 64 ≡ 255 - m / 64 = omega arith in
          let q : (16384 - 1 - m) % 64 ≡ 63 - m % 64 = omega arith in
          rw (e, q) ((p.done (m / 64) (omega arith)).each (m % 64) (omega arith));
    }
