-- Laws of sets of vertices, and of the word operations on them.
-- Assumes nothing.
use mathlib.Core.Path.{◌≡◌, refl, sym, ◌∙◌, subst}
use mathlib.Core.Bool.{not}
use mathlib.Core.Logic.{◌⊎◌, inl, inr, ⊎_elim}
use Prim.Native.Nat.{ℕ, zero, suc, ◌+◌, ◌-◌, ◌*◌, ◌/◌, ◌%◌, ◌^◌, max, ◌≤◌, ◌<◌}
use native.Mathlib.Nat.{lt_of_lt_of_le, mod-eq_of_lt, mod-lt, pow-suc}
use native.Mathlib.Omega.{arith}
use lib.Bits.{bit_and, bit_or, or_step, or_zero_r}
use lib.Count.{ones, ones_step, ones_cat}
use lib.Arith.{bin_ind}
use lib.Pow.{pow_mono, pow-lt, pow_pos, ones_lt, mod-pow-add}
use lib.Dec.{eqb, ltb}
use borrow.Author.Tests.{ltb-true, eqb-true, eqb-false, not-true, not-false}
use Rattle.vertex_set.specs.Set.{Member, Within, Meets, Decides, Iff, Inserted, Below}
use Rattle.vertex_set.proofs.Cases.{less-or, same_or}
use Rattle.vertex_set.proofs.Digits.{digit, digit_lt, digit_and, digit_or, digit-zero, digit-high, digit-suc, digit-first, digits_same, digit-pow-same, digit-pow-other, digit_not, digit_ones}

-- ---- membership

pub member-or : (s i : ℕ) → Member s i ⊎ (Member s i → ⊥)
unfolding Member
member-or s i = same_or (digit s i) 1

-- what is no member has the digit 0
pub not-member : (s i : ℕ) → (Member s i → ⊥) → digit s i ≡ 0
unfolding Member
not-member s i n = ⊎_elim (λ h. absurd (n h)) (λ h. let d = digit_lt s i in omega (arith, h)) (same_or (digit s i) 1)

pub member_below : (k s i : ℕ) → s < 2 ^ k → Member s i → i < k
unfolding Member
member_below k s i h m =
    ⊎_elim (λ l. l) (λ l. absurd (let z = digit-high s i (lt_of_lt_of_le h (pow_mono {i = k} {j = i} l)) in omega arith)) (less-or i k)

pub none-in-zero : (i : ℕ) → Member 0 i → ⊥
unfolding Member
none-in-zero i m = let z = digit-zero i in omega arith

-- a set with a member is not empty
pub not-empty : (s i : ℕ) → Member s i → s ≡ 0 → ⊥
not-empty s i m e = none-in-zero i (subst (λ (x : ℕ). Member x i) e m)

-- a set that is not empty has a member
pub some-member : (s : ℕ) → (s ≡ 0 → ⊥) → (i : ℕ) × Member s i
unfolding Member
some-member = bin_ind (λ (s : ℕ). (s ≡ 0 → ⊥) → (i : ℕ) × (digit s i ≡ 1)) (λ n. absurd (n refl)) step
  where
    step : (s : ℕ) → ((s / 2 ≡ 0 → ⊥) → (i : ℕ) × (digit (s / 2) i ≡ 1)) → (s ≡ 0 → ⊥) → (i : ℕ) × (digit s i ≡ 1)
    step s ih n =
        ⊎_elim (λ odd. (0, digit-first s ∙ odd))
        (λ even. let h = ih (λ e. n (omega arith)) in (suc h.0, digit-suc s h.0 ∙ h.1))
        (same_or (s % 2) 1)

-- ---- inclusion

pub within-refl : (a : ℕ) → Within a a
within-refl a = record { each = λ i m. m }

pub within-trans : {a b c : ℕ} → Within a b → Within b c → Within a c
within-trans p q = record { each = λ i m. q.each i (p.each i m) }

-- sets with the same members are one
pub same_set : (a b : ℕ) → Within a b → Within b a → a ≡ b
unfolding Member
same_set a b p q =
    digits_same a b (λ i. ⊎_elim
    (λ m. m ∙ sym (p.each i m))
    (λ n. not-member a i n ∙ sym (not-member b i (λ m. n (q.each i m))))
    (member-or a i))

-- two sets with one description are one
pub one_set : (P : ℕ → Type 0) (a b : ℕ) → ((v : ℕ) → Iff (Member a v) (P v)) → ((v : ℕ) → Iff (Member b v) (P v)) → a ≡ b
one_set P a b p q = same_set a b (record { each = λ v m. (q v).from ((p v).to m) }) (record { each = λ v m. (p v).from ((q v).to m) })

-- a set within another is the smaller number
pub within-le : (a b : ℕ) → Within a b → a ≤ b
unfolding Member
within-le = bin_ind (λ (a : ℕ). (b : ℕ) → Within a b → a ≤ b) (λ b w. omega arith) step
  where
    step : (a : ℕ) → ((b : ℕ) → Within (a / 2) b → a / 2 ≤ b) → (b : ℕ) → Within a b → a ≤ b
    step a ih b w =
        let high : a / 2 ≤ b / 2 = ih (b / 2) (record { each = λ i m. sym (digit-suc b i) ∙ w.each (suc i) (digit-suc a i ∙ m) }) in
        let low : a % 2 ≤ b % 2 =
        ⊎_elim (λ odd. let z = sym (digit-first b) ∙ w.each 0 (digit-first a ∙ odd) in omega arith) (λ even. omega arith) (same_or (a % 2) 1) in
        omega arith

-- ---- word operations

pub in_and : (a b i : ℕ) → Iff (Member (bit_and a b) i) (Member a i × Member b i)
unfolding Member
in_and a b i =
    let d = digit_and a b i in
    let x = digit_lt a i in
    let y = digit_lt b i in
    record { to = λ m. (omega arith, omega arith); from = λ m. let p = m.0 in let q = m.1 in omega arith }

pub in-or : (a b i : ℕ) → Iff (Member (bit_or a b) i) (Member a i ⊎ Member b i)
unfolding Member
in-or a b i =
    let d = digit_or a b i in
    let x = digit_lt a i in
    let y = digit_lt b i in
    record {
      to = λ m. ⊎_elim (λ p. inl p) (λ n. inr (omega (arith, not-member a i n))) (member-or a i);
      from = ⊎_elim (λ m. omega arith) (λ m. omega arith);
    }

-- the complement in a word
pub in-not : (a i : ℕ) → a < 2 ^ 64 → i < 64 → Iff (Member ((2 ^ 64 - 1) - a) i) (Member a i → ⊥)
unfolding Member
in-not a i h l =
    let d = digit_not 64 a i h l in
    let x = digit_lt a i in
    record { to = λ m p. omega arith; from = λ n. let z = not-member a i n in omega arith }

-- a set less another one
pub in-less : (a b i : ℕ) → a < 2 ^ 64 → b < 2 ^ 64 → Iff (Member (bit_and a ((2 ^ 64 - 1) - b)) i) (Member a i × (Member b i → ⊥))
in-less a b i h k =
    let n = in_and a ((2 ^ 64 - 1) - b) i in
    record {
      to = λ m. let p = n.to m in (p.0, (in-not b i k (member_below 64 a i h p.0)).to p.1);
      from = λ p. n.from (p.0, (in-not b i k (member_below 64 a i h p.0)).from p.1);
    }

-- a and the complement of b have nothing in common: a is within b
pub within-test : (a b : ℕ) → a < 2 ^ 64 → b < 2 ^ 64 → Iff (bit_and a ((2 ^ 64 - 1) - b) ≡ 0) (Within a b)
within-test a b ha hb =
    record {
      to = λ e. record {
        each = λ i m. ⊎_elim (λ p. p) (λ n. absurd (none-in-zero i (subst (λ (x : ℕ). Member x i) e
            ((in_and a ((2 ^ 64 - 1) - b) i).from (m, (in-not b i hb (member_below 64 a i ha m)).from n))))) (member-or b i);
      };
      from = λ w. same_set _ _ (record {
        each = λ i m. absurd ((in-not b i hb (member_below 64 a i ha ((in_and a ((2 ^ 64 - 1) - b) i).to m).0)).to
            ((in_and a ((2 ^ 64 - 1) - b) i).to m).1 (w.each i ((in_and a ((2 ^ 64 - 1) - b) i).to m).0));
      })
          (record { each = λ i m. absurd (none-in-zero i m) });
    }

pub meets-test : (a b : ℕ) → (bit_and a b ≡ 0 → ⊥) → Meets a b
meets-test a b n =
    let s = some-member (bit_and a b) n in
    record { vertex = s.0; left = ((in_and a b s.0).to s.1).0; right = ((in_and a b s.0).to s.1).1 }

pub meets-not : (a b : ℕ) → bit_and a b ≡ 0 → Meets a b → ⊥
meets-not a b e m = none-in-zero m.vertex (subst (λ (x : ℕ). Member x m.vertex) e ((in_and a b m.vertex).from (m.left, m.right)))

-- ---- one vertex

pub in_one : (v i : ℕ) → Iff (Member (2 ^ v) i) (i ≡ v)
unfolding Member
in_one v i =
    record {
      to = λ m. ⊎_elim (λ e. e) (λ n. absurd (let z = digit-pow-other v i n in omega arith)) (same_or i v);
      from = λ e. subst (λ (j : ℕ). digit (2 ^ v) j ≡ 1) (sym e) (digit-pow-same v);
    }

-- ---- what the methods of a set compute

-- a shift of one, as the machine has it
pub shifted_one : (v : ℕ) → v < 64 → (1 * 2 ^ v) % 2 ^ 64 ≡ 2 ^ v
shifted_one v h =
    let e : 1 * 2 ^ v ≡ 2 ^ v = omega arith in
    rw e (mod-eq_of_lt (pow-lt {i = v} {j = 64} h))

pub inserted_new : (s v : ℕ) → v < 64 → Inserted s v (bit_or s ((1 * 2 ^ v) % 2 ^ 64))
inserted_new s v h =
    rw (shifted_one v h)
    (record {
      taken = λ l i. record {
        to = λ m. ⊎_elim (λ p. inl p) (λ p. inr ((in_one v i).to p)) ((in-or s (2 ^ v) i).to m);
        from = λ m. (in-or s (2 ^ v) i).from (⊎_elim (λ p. inl p) (λ e. inr ((in_one v i).from e)) m);
      };
      unchanged = λ l. absurd (omega arith);
    })

pub inserted_above : (s v : ℕ) → 64 ≤ v → Inserted s v s
inserted_above s v h = record { taken = λ l i. absurd (omega arith); unchanged = λ l. refl }

pub member-decided : (s v : ℕ) → Decides (Member s v) (eqb (s / 2 ^ v % 2) 1)
unfolding Member
member-decided s v = record { yes = eqb-true _ _; no = eqb-false _ _ }

-- a vertex above 63 is none of a word's, and the test for the vertices of a set says so
pub member-above : (s v : ℕ) → s < 2 ^ 64 → 64 ≤ v → Decides (Member s v) (ltb v 64)
member-above s v hs h =
    record { yes = λ e. absurd (let l = ltb-true v 64 e in omega arith); no = λ e m. let l = member_below 64 s v hs m in omega arith }

pub within-decided : (a b : ℕ) → a < 2 ^ 64 → b < 2 ^ 64 → Decides (Within a b) (eqb (bit_and a ((2 ^ 64 - 1) - b)) 0)
within-decided a b ha hb =
    record { yes = λ e. (within-test a b ha hb).to (eqb-true _ _ e); no = λ e w. eqb-false _ _ e ((within-test a b ha hb).from w) }

pub meets-decided : (a b : ℕ) → Decides (Meets a b) (not (eqb (bit_and a b) 0))
meets-decided a b =
    record {
      yes = λ e. meets-test a b (eqb-false _ _ (not-true _ e));
      no = λ e. meets-not a b (eqb-true _ _ (not-false _ e));
    }

-- the number of all vertices below n
pub below_power : (n : ℕ) → n ≤ 64 → Below n (2 ^ n - 1)
unfolding Member
below_power n h =
    record {
      each = λ i. record {
        to = λ m. let l = member_below n (2 ^ n - 1) i (ones_lt n) m in (l, omega arith);
        from = λ p. digit_ones n i p.0;
      };
    }

pub below-shifted : (n : ℕ) → n < 64 → Below n ((1 * 2 ^ n) % 2 ^ 64 - 1)
below-shifted n h = rw (shifted_one n h) (below_power n (omega arith))

pub below-many : (n : ℕ) → 64 ≤ n → Below n (2 ^ 64 - 1)
below-many n h =
    let b = below_power 64 (omega arith) in
    record {
      each = λ i. record {
        to = λ m. let l = ((b.each i).to m).0 in (omega arith, l);
        from = λ p. (b.each i).from (p.1, p.1);
      };
    }

-- a number whose members are below k is below 2 ^ k
pub bounded-by-members : (k s : ℕ) → ((i : ℕ) → Member s i → i < k) → s < 2 ^ k
unfolding Member
bounded-by-members k s h =
    let le = within-le s (2 ^ k - 1) (record { each = λ i m. digit_ones k i (h i m) }) in
    let p = pow_pos k in
    omega arith

-- ---- how many members

-- the empty set has no vertex
pub ones-zero : ones 0 ≡ 0
unfolding ones
ones-zero = refl

-- one vertex more is at most one member more
pub ones-or-one : (v s : ℕ) → ones (bit_or s (2 ^ v)) ≤ ones s + 1
ones-or-one zero s =
    let e = or_step s 1 in
    let z : bit_or (s / 2) (1 / 2) ≡ s / 2 = or_zero_r (s / 2) in
    let low : bit_or s 1 % 2 ≤ 1 = omega arith in
    let high : bit_or s 1 / 2 ≡ s / 2 = omega arith in
    rw (ones_step (bit_or s 1), high) (let p = ones_step s in omega arith)
ones-or-one (suc v) s =
    let p = pow-suc 2 v in
    let half : 2 ^ suc v / 2 ≡ 2 ^ v = omega arith in
    let e : bit_or s (2 ^ suc v) ≡ bit_or (s / 2) (2 ^ v) * 2 + max (s % 2) (2 ^ suc v % 2) = rw half at (or_step s (2 ^ suc v)) in
    let low : bit_or s (2 ^ suc v) % 2 ≡ s % 2 = omega arith in
    let high : bit_or s (2 ^ suc v) / 2 ≡ bit_or (s / 2) (2 ^ v) = omega arith in
    rw (ones_step (bit_or s (2 ^ suc v)), low, high) (let p = ones_step s in let q = ones-or-one v (s / 2) in omega arith)

ones-of-digit : (d : ℕ) → d < 2 → ones d ≡ d
unfolding ones
ones-of-digit zero h = refl
ones-of-digit (suc zero) h = refl
ones-of-digit (suc (suc d)) h = absurd (omega arith)

-- the members below n + 1: those below n, and n if it is one
pub ones-below-more : (s n : ℕ) → ones (s % 2 ^ suc n) ≡ ones (s % 2 ^ n) + digit s n
ones-below-more s n =
    let e : 1 + n ≡ suc n = omega arith in
    let m : s % 2 ^ suc n ≡ digit s n * 2 ^ n + s % 2 ^ n = rw e at (mod-pow-add s 1 n) in
    rw (m, ones_cat n (digit s n) (s % 2 ^ n) (mod-lt s (pow_pos n))) (let d = ones-of-digit (digit s n) (digit_lt s n) in omega arith)

-- what the methods of a set answer
pub ruleset method_answers = (member-decided, member-above, within-decided, meets-decided, inserted_new, inserted_above, below-shifted, below-many)
