-- The tests decide what they are named for.
-- Assumes nothing.
use mathlib.Core.Path.{◌≡◌, refl, sym, subst}
use mathlib.Core.Bool.{Bool, true, false, not}
use mathlib.Core.List.{List, [], ◌∷◌}
use mathlib.Core.Logic.{◌⊎◌, inl, inr, ⊎_elim}
use Prim.Native.Nat.{ℕ, zero, suc, ◌^◌, ◌≤◌, ◌<◌}
use native.Mathlib.Nat.{le_of_suc-le-suc}
use native.Mathlib.Omega.{arith}
use lib.Dec.{eqb}
use lib.Bits.{bit_and}
use borrow.Author.Tests.{ltb-true, ltb-false, eqb-true, eqb-false}
use Rattle.vertex_set.specs.Set.{Member, Within, Meets, Decides, Iff, Inserted}
use Rattle.vertex_set.specs.Order.{Listed}
use Rattle.vertex_set.proofs.Cases.{by_test}
use Rattle.vertex_set.proofs.Decisions.{decide-yes, decide-no, decide_iff, decide-eqb, decide-not}
use Rattle.vertex_set.proofs.Sets.{in_and, in-or, in_one, same_set, member-decided, meets-decided}
use Rattle.vertex_set.proofs.Sorted.{only, listed-only, Sorted, sorted-only}
use Rattle.reference.specs.Tests.{lowest, some, every, filtered, is_listed, is_member, is_within, is_meeting, with_vertex}

-- ---- decisions together

pub by-decision {ℓ} : {P : Type 0} {C : Type ℓ} (r : Bool) → Decides P r → (r ≡ true → P → C) → (r ≡ false → (P → ⊥) → C) → C
by-decision r d f g = by_test r (λ e. f e (d.yes e)) (λ e. g e (d.no e))

-- ---- the lowest number that passes a test

-- r is the lowest below n with P; n where there is none.
pub record LowestOf (P : ℕ → Type 0) (n r : ℕ) : Type 0 where
  pub most : r ≤ n
  pub is : r < n → P r
  pub none : (i : ℕ) → i < r → P i → ⊥

pub lowest-of : (P : ℕ → Type 0) (test : ℕ → Bool) → ((i : ℕ) → Decides (P i) (test i)) → (n : ℕ) → LowestOf P n (lowest test n)
unfolding lowest
lowest-of P test d zero = record { most = omega arith; is = λ l. absurd (omega arith); none = λ i l. absurd (omega arith) }
lowest-of P test d (suc n) =
    by_test (test 0)
    (λ e. rw e (record { most = omega arith; is = λ l. (d 0).yes e; none = λ i l. absurd (omega arith) }))
    (λ e. rw e (later _ e (lowest-of (λ i. P (suc i)) (λ i. test (suc i)) (λ i. d (suc i)) n)))
  where
    later : (r : ℕ) → test 0 ≡ false → LowestOf (λ i. P (suc i)) n r → LowestOf P (suc n) (suc r)
    later r e h = record { most = let m = h.most in omega arith; is = λ l. h.is (le_of_suc-le-suc l); none = below }
      where
        below : (i : ℕ) → i < suc r → P i → ⊥
        below zero l p = (d 0).no e p
        below (suc i) l p = h.none i (le_of_suc-le-suc l) p

-- Some number below n has P.
abbrev pub SomeBelow : (ℕ → Type 0) → ℕ → Type 0
SomeBelow P n = (i : ℕ) × (i < n) × P i

pub decide-some : (P : ℕ → Type 0) (test : ℕ → Bool) → ((i : ℕ) → Decides (P i) (test i)) → (n : ℕ) → Decides (SomeBelow P n) (some test n)
unfolding some
decide-some P test d n =
    let h = lowest-of P test d n in
    record {
      yes = λ e. let l = ltb-true (lowest test n) n e in (lowest test n, l, h.is l);
      no = λ e w. let l = ltb-false (lowest test n) n e in let b = w.1 in h.none w.0 (omega arith) w.2;
    }

pub decide-every : (P : ℕ → Type 0) (test : ℕ → Bool) → ((i : ℕ) → Decides (P i) (test i)) → (n : ℕ)
    → Decides ((i : ℕ) → i < n → P i) (every test n)
unfolding every
decide-every P test d n =
    decide_iff
    (record {
      to = λ none i l. by-decision (test i) (d i) (λ e p. p) (λ e q. absurd (none (i, l, q)));
      from = λ h w. w.2 (h w.0 w.1);
    })
    (decide-not _ (decide-some (λ i. P i → ⊥) (λ i. not (test i)) (λ i. decide-not (test i) (d i)) n))

-- ---- lists

filtered-only : (test : ℕ → Bool) (l : List ℕ) → filtered test l ≡ only test l
unfolding filtered
filtered-only test [] = refl
filtered-only test (x ∷ l) = by_test (test x) (λ e. rw (e, filtered-only test l)) (λ e. rw (e, filtered-only test l))

pub listed-filtered : (P : ℕ → Type 0) (test : ℕ → Bool) (l : List ℕ) → ((x : ℕ) → Listed l x → Decides (P x) (test x)) → (x : ℕ)
    → Iff (Listed (filtered test l) x) (Listed l x × P x)
listed-filtered P test l d x =
    rw (filtered-only test l)
    (record {
      to = λ m. let p = (listed-only test l x).to m in (p.0, (d x p.0).yes p.1);
      from = λ p. (listed-only test l x).from (p.0, by_test (test x) (λ e. e) (λ e. absurd ((d x p.0).no e p.1)));
    })

pub sorted-filtered : (R : ℕ → ℕ → Type 0) (test : ℕ → Bool) (l : List ℕ) → Sorted R l → Sorted R (filtered test l)
sorted-filtered R test l h = rw (filtered-only test l) (sorted-only R test l h)

pub decide-listed : (l : List ℕ) (x : ℕ) → Decides (Listed l x) (is_listed l x)
unfolding is_listed
decide-listed [] x = decide-no (λ z. z)
decide-listed (y ∷ l) x =
    by_test (eqb x y)
    (λ e. rw e (decide-yes (inl (eqb-true x y e))))
    (λ e. rw e (decide_iff (record { to = λ m. inr m; from = ⊎_elim (λ q. absurd (eqb-false x y e q)) (λ m. m) }) (decide-listed l x)))

-- ---- sets

pub decide-member : (s v : ℕ) → Decides (Member s v) (is_member s v)
unfolding is_member
decide-member s v = member-decided s v

pub decide-within : (a b : ℕ) → Decides (Within a b) (is_within a b)
unfolding is_within
decide-within a b =
    decide_iff
    (record {
      to = λ e. record { each = λ i m. ((in_and a b i).to (subst (λ (x : ℕ). Member x i) (sym e) m)).1 };
      from = λ w. same_set (bit_and a b) a (record { each = λ i m. ((in_and a b i).to m).0 }) (record { each = λ i m. (in_and a b i).from (m, w.each i m) });
    })
    (decide-eqb (bit_and a b) a)

pub decide-meeting : (a b : ℕ) → Decides (Meets a b) (is_meeting a b)
unfolding is_meeting
decide-meeting a b = meets-decided a b

pub in-with : (s v i : ℕ) → Iff (Member (with_vertex s v) i) (Member s i ⊎ (i ≡ v))
unfolding with_vertex
in-with s v i =
    record {
      to = λ m. ⊎_elim (λ p. inr ((in_one v i).to p)) (λ p. inl p) ((in-or (2 ^ v) s i).to m);
      from = λ m. (in-or (2 ^ v) s i).from (⊎_elim (λ p. inr p) (λ e. inl ((in_one v i).from e)) m);
    }

pub inserted-with : (s v : ℕ) → v < 64 → Inserted s v (with_vertex s v)
inserted-with s v l = record { taken = λ k i. in-with s v i; unchanged = λ h. absurd (omega arith) }
