-- Steps down: from a lane to the lanes and words that have one bit fewer, by shifts and by words.
-- Assumes nothing.
use mathlib.Core.Path.{◌≡◌, refl, sym, ◌∙◌, subst}
use mathlib.Core.Bool.{true}
use mathlib.Core.Logic.{inl, inr, ⊎_elim}
use mathlib.Core.List.{List}
use Prim.Native.Nat.{ℕ, suc, ◌+◌, ◌-◌, ◌*◌, ◌%◌, ◌^◌, ◌<◌}
use native.Mathlib.Omega.{arith}
use lib.Bits.{bit_and, bit_or, or_lt}
use lib.Dec.{eqb}
use lib.ListN.{get_or}
use borrow.Author.Tests.{eqb-true}
use Rattle.vertex_set.specs.Set.{Member, Iff}
use Rattle.vertex_set.proofs.Cases.{same_or}
use Rattle.vertex_set.proofs.Digits.{digit}
use Rattle.vertex_set.proofs.Sets.{in_and, in-or, in-not, member_below, none-in-zero, shifted_one}
use Rattle.vertex_set.proofs.Places.{member-le}
use Rattle.vertex_set.proofs.Shifts.{in-low, in-shifted, all, all-at}
use Rattle.families.specs.Inner.Steps.{StepsInWord, StepsToWord, LeastWord}

-- ---- within a word

-- The pattern has the lanes whose number has the bit j.
abbrev Pattern : ℕ → ℕ → Type 0
Pattern p j = all (λ (i : ℕ). eqb (digit p i) (digit i j)) 64 ≡ true

in-pattern : (p j i : ℕ) → Pattern p j → i < 64 → Iff (Member p i) (Member i j)
unfolding Member
in-pattern p j i t h =
    let e = eqb-true _ _ (all-at (λ (i : ℕ). eqb (digit p i) (digit i j)) 64 t i h) in
    record { to = λ m. sym e ∙ m; from = λ m. e ∙ m }

-- a shift by 2 ^ j, and then the lanes that have the bit j
in_step : (x p j i : ℕ) → Pattern p j → i < 64 → Iff (Member (bit_and ((x * 2 ^ (2 ^ j)) % 2 ^ 64) p) i) (Member i j × Member x (i - 2 ^ j))
in_step x p j i t h =
    let a = in_and ((x * 2 ^ (2 ^ j)) % 2 ^ 64) p i in
    let b = in-pattern p j i t h in
    let c = in-low 64 i (x * 2 ^ (2 ^ j)) h in
    let d = in-shifted (2 ^ j) i x in
    record {
      to = λ m. (b.to (a.to m).1, (d.to (c.to (a.to m).0)).1);
      from = λ q. a.from (c.from (d.from (member-le j i q.0, q.1)), b.from q.0);
    }

abbrev term : ℕ → ℕ → ℕ → ℕ
term x j p = bit_and ((x * 2 ^ (2 ^ j)) % 2 ^ 64) p

-- a word that has the lanes one step above x by a bit below n
abbrev StepsBelow : ℕ → ℕ → ℕ → ℕ → Type 0
StepsBelow x n i r = Iff (Member r i) ((j : ℕ) × (j < n) × Member i j × Member x (i - 2 ^ j))

below-first : (x p i : ℕ) → Pattern p 0 → i < 64 → StepsBelow x 1 i (term x 0 p)
below-first x p i t h =
    let s = in_step x p 0 i t h in
    record {
      to = λ m. (0, omega arith, (s.to m).0, (s.to m).1);
      from = λ q. let e : q.0 ≡ 0 = omega (arith, q.1) in
          s.from (rw e at q.2, subst (λ (j : ℕ). Member x (i - 2 ^ j)) e q.3);
    }

below_next : (x p n i r : ℕ) → Pattern p n → i < 64 → StepsBelow x n i r → StepsBelow x (suc n) i (bit_or r (term x n p))
below_next x p n i r t h b =
    let s = in_step x p n i t h in
    let o = in-or r (term x n p) i in
    record {
      to = λ m. ⊎_elim (λ a. let q = b.to a in (q.0, omega (arith, q.1), q.2, q.3)) (λ a. (n, omega arith, (s.to a).0, (s.to a).1)) (o.to m);
      from = λ q. o.from (⊎_elim
          (λ e. inr (s.from (rw e at q.2, subst (λ (j : ℕ). Member x (i - 2 ^ j)) e q.3)))
          (λ ne. inl (b.from (q.0, omega (arith, q.1), q.2, q.3))) (same_or q.0 n));
    }

abbrev pub steps_of : ℕ → ℕ
steps_of x =
    bit_or (bit_or (bit_or (bit_or (bit_or (term x 0 0xAAAA_AAAA_AAAA_AAAA) (term x 1 0xCCCC_CCCC_CCCC_CCCC)) (term x 2 0xF0F0_F0F0_F0F0_F0F0))
    (term x 3 0xFF00_FF00_FF00_FF00)) (term x 4 0xFFFF_0000_FFFF_0000)) (term x 5 0xFFFF_FFFF_0000_0000)

steps-below : (x i : ℕ) → i < 64 → StepsBelow x 6 i (steps_of x)
steps-below x i h =
    below_next x 0xFFFF_FFFF_0000_0000 5 i _ refl h
    (below_next x 0xFFFF_0000_FFFF_0000 4 i _ refl h
    (below_next x 0xFF00_FF00_FF00_FF00 3 i _ refl h
    (below_next x 0xF0F0_F0F0_F0F0_F0F0 2 i _ refl h
    (below_next x 0xCCCC_CCCC_CCCC_CCCC 1 i _ refl h
    (below-first x 0xAAAA_AAAA_AAAA_AAAA i refl h)))))

pub steps-in-word : (x : ℕ) → StepsInWord x (steps_of x)
steps-in-word x =
    record {
      each = λ i h.
          let b = steps-below x i h in
          record {
            to = λ m. let q = b.to m in (q.0, q.2, q.3);
            from = λ q. b.from (q.0, member_below 6 i q.0 h q.1, q.1, q.2);
          };
    }

-- ---- to other words

pub to_none : (f : List ℕ) (b : ℕ) → StepsToWord f b 0 0
to_none f b = record { each = λ i. record { to = λ m. absurd (none-in-zero i m); from = λ q. absurd (omega (arith, q.1)) } }

-- the bit j of b is set, and the word without it comes in
pub to-more : (f : List ℕ) (b j r : ℕ) → j < 64 → Member b j → StepsToWord f b j r
    → StepsToWord f b (j + 1) (bit_or r (get_or f (b - (1 * 2 ^ j) % 2 ^ 64) 0))
to-more f b j r h m s =
    rw (shifted_one j h)
    (record {
      each = λ i.
          let o = in-or r (get_or f (b - 2 ^ j) 0) i in
          record {
            to = λ n. ⊎_elim (λ a. let q = (s.each i).to a in (q.0, omega (arith, q.1), q.2, q.3)) (λ a. (j, omega arith, m, a)) (o.to n);
            from = λ q. o.from (⊎_elim
                (λ e. inr (subst (λ (k : ℕ). Member (get_or f (b - 2 ^ k) 0) i) e q.3))
                (λ ne. inl ((s.each i).from (q.0, omega (arith, q.1), q.2, q.3))) (same_or q.0 j));
          };
    })

pub to_same : (f : List ℕ) (b j r : ℕ) → (Member b j → ⊥) → StepsToWord f b j r → StepsToWord f b (j + 1) r
to_same f b j r n s =
    record {
      each = λ i. record {
        to = λ m. let q = (s.each i).to m in (q.0, omega (arith, q.1), q.2, q.3);
        from = λ q. ⊎_elim (λ e. absurd (n (rw e at q.2))) (λ ne. (s.each i).from (q.0, omega (arith, q.1), q.2, q.3)) (same_or q.0 j);
      };
    }

-- ---- the least lanes of a word

pub least-word : (f : List ℕ) (b low high : ℕ) → low < 2 ^ 64 → high < 2 ^ 64 → StepsInWord (get_or f b 0) low → StepsToWord f b 8 high
    → LeastWord f b (bit_and (get_or f b 0) ((2 ^ 64 - 1) - bit_or low high))
least-word f b low high hl hh sl sh =
    record {
      each = λ i l.
          let a = in_and (get_or f b 0) ((2 ^ 64 - 1) - bit_or low high) i in
          let n = in-not (bit_or low high) i (or_lt 64 low high hl hh) l in
          let o = in-or low high i in
          record {
            to = λ m. record {
              is = (a.to m).0;
              low = λ s. n.to (a.to m).1 (o.from (inl ((sl.each i l).from s)));
              high = λ s. n.to (a.to m).1 (o.from (inr ((sh.each i).from s)));
            };
            from = λ q. a.from (q.is, n.from (λ m. ⊎_elim (λ x. q.low ((sl.each i l).to x)) (λ x. q.high ((sh.each i).to x)) (o.to m)));
          };
    }
