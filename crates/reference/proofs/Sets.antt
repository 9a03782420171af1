-- `sets_of` lists all sets of chosen vertices, in document 01's order.
-- Assumes nothing.
use mathlib.Core.Path.{◌≡◌, refl, sym, ap, subst, ◌∙◌}
use mathlib.Core.Bool.{Bool, true}
use mathlib.Core.List.{map}
use mathlib.Core.Logic.{inl, inr, ⊎_elim}
use Prim.Native.Nat.{ℕ, zero, suc, ◌+◌, ◌-◌, ◌*◌, ◌/◌, ◌^◌, ◌≤◌, ◌<◌}
use native.Mathlib.Nat.{pow-suc}
use native.Mathlib.Omega.{arith}
use lib.Arith.{bin_ind}
use lib.Count.{ones, ones_step, ones_cat, ones-le}
use lib.Pow.{pow_pos}
use Rattle.vertex_set.specs.Set.{Member, Within, Iff, Decides}
use Rattle.vertex_set.specs.Order.{Listed, Before}
use Rattle.vertex_set.proofs.Cases.{by_test, less-or, same_or, false-true}
use Rattle.vertex_set.proofs.Decisions.{decide-eqb}
use Rattle.vertex_set.proofs.Sets.{none-in-zero, within-le, below_power, ones-zero}
use Rattle.vertex_set.proofs.Places.{in-removed, removed-within}
use Rattle.vertex_set.proofs.Sorted.{listed-append, listed-map, listed-of-map, Sorted, sorted-append, sorted-map, sorted-change}
use Rattle.setup.specs.declared.Setup.{Setup}
use Rattle.setup.specs.Setup.{given, value_of, vertex_at, Chosen}
use Rattle.successors.proofs.Members.{top-member}
use Rattle.formed.specs.WellFormed.{WellFormed}
use Rattle.reference.specs.Bases.{is_chosen, sets_of_size, sets_up_to, sets_of}
use Rattle.reference.proofs.Graphs.{chosen-below}

-- ---- sets below a power

no_ones : (x : ℕ) → ones x ≡ 0 → x ≡ 0
no_ones = bin_ind (λ (x : ℕ). ones x ≡ 0 → x ≡ 0) (λ e. refl) (λ x ih e. let s = ones_step x in let h = ih (omega arith) in omega arith)

one-one : ones 1 ≡ 1
unfolding ones
one-one = refl

-- a set whose vertices are below n is below 2 ^ n
pub below-pow : (n x : ℕ) → n ≤ 64 → ((v : ℕ) → Member x v → v < n) → x < 2 ^ n
below-pow n x l h =
    let p = pow_pos n in
    let w : Within x (2 ^ n - 1) = record { each = λ v m. let k = h v m in ((below_power n l).each v).from (k, omega arith) } in
    let le = within-le x (2 ^ n - 1) w in
    omega arith

-- ---- the sets of one size

-- x is a set of k vertices below n, and each passes the test.
pub record SizedSet (test : ℕ → Bool) (n k x : ℕ) : Type 0 where
  pub below : x < 2 ^ n
  pub size : ones x ≡ k
  pub each : (v : ℕ) → Member x v → test v ≡ true

module _ (test : ℕ → Bool) where
  no-vertices : (n x : ℕ) → x ≡ 0 → SizedSet test n 0 x
  no-vertices n x e =
      record {
        below = rw e (pow_pos n);
        size = ap ones e ∙ ones-zero;
        each = λ v m. absurd (none-in-zero v (subst (λ (y : ℕ). Member y v) e m));
      }

  -- without the vertex n
  wider : (n k x : ℕ) → SizedSet test n k x → SizedSet test (suc n) k x
  wider n k x h = record { below = let p = pow-suc 2 n in let b = h.below in omega arith; size = h.size; each = h.each }

  -- with it
  module _ (n y : ℕ) (b : y < 2 ^ n) where
    top : Member (2 ^ n + y) n
    top = top-member n (2 ^ n + y) (let p = pow-suc 2 n in omega arith) (omega arith)

    rest : (2 ^ n + y) - 2 ^ n ≡ y
    rest = omega arith

    more-ones : ones (2 ^ n + y) ≡ suc (ones y)
    more-ones =
        let e : 2 ^ n + y ≡ 1 * 2 ^ n + y = omega arith in
        let c = ones_cat n 1 y b in
        let o = one-one in
        ap ones e ∙ (omega arith)

  taller : (n k y : ℕ) → test n ≡ true → SizedSet test n k y → SizedSet test (suc n) (suc k) (2 ^ n + y)
  taller n k y t h =
      record {
        below = let p = pow-suc 2 n in let b = h.below in omega arith;
        size = more-ones n y h.below ∙ ap suc h.size;
        each = λ v m. ⊎_elim (λ e. ap test e ∙ t)
            (λ o. h.each v (subst (λ (x : ℕ). Member x v) (rest n y h.below) ((in-removed (2 ^ n + y) n v (top n y h.below)).from (m, o))))
            (same_or v n);
      }

  lower : (n k x : ℕ) → SizedSet test (suc n) k x → x < 2 ^ n → SizedSet test n k x
  lower n k x h b = record { below = b; size = h.size; each = h.each }

  without : (n k x : ℕ) → SizedSet test (suc n) (suc k) x → 2 ^ n ≤ x → (test n ≡ true) × SizedSet test n k (x - 2 ^ n) × (x ≡ 2 ^ n + (x - 2 ^ n))
  without n k x h l =
      let m = top-member n x h.below l in
      let e : x ≡ 2 ^ n + (x - 2 ^ n) = omega arith in
      let b : x - 2 ^ n < 2 ^ n = let p = pow-suc 2 n in let c = h.below in omega arith in
      let o = more-ones n (x - 2 ^ n) b in
      let q : ones x ≡ suc (ones (x - 2 ^ n)) = ap ones e ∙ o in (
        h.each n m,
        record { below = b; size = let z = h.size in omega arith; each = λ v i. h.each v ((removed-within x n m).each v i) },
        e,
      )

  pub listed-sized : (n k x : ℕ) → Iff (Listed (sets_of_size test n k) x) (SizedSet test n k x)
  unfolding sets_of_size
  listed-sized n zero x = record { to = ⊎_elim (no-vertices n x) absurd; from = λ h. inl (no_ones x h.size) }
  listed-sized zero (suc k) x =
      record {
        to = absurd;
        from = λ h.
            let b = h.below in
            let e : x ≡ 0 = omega arith in
            let z = ap ones e ∙ ones-zero in
            let q = h.size in
            absurd (omega arith);
      }
  listed-sized (suc n) (suc k) x =
      let less = listed-sized n (suc k) in
      let more = listed-sized n k in
      by_test (test n)
      (λ t. rw t (record {
        to = λ m. ⊎_elim (λ a. wider n (suc k) x ((less x).to a))
            (λ b.
            let y = listed-of-map (λ z. 2 ^ n + z) (sets_of_size test n k) x b in
            subst (SizedSet test (suc n) (suc k)) (sym y.2) (taller n k y.0 t ((more y.0).to y.1)))
            ((listed-append (sets_of_size test n (suc k)) (map (λ z. 2 ^ n + z) (sets_of_size test n k)) x).to m);
        from = λ h. (listed-append (sets_of_size test n (suc k)) (map (λ z. 2 ^ n + z) (sets_of_size test n k)) x).from
            (⊎_elim (λ b. inl ((less x).from (lower n (suc k) x h b)))
            (λ b.
            let w = without n k x h b in
            inr (subst (Listed (map (λ z. 2 ^ n + z) (sets_of_size test n k))) (sym w.2) (listed-map (λ z. 2 ^ n + z) (sets_of_size test n k) (x - 2 ^ n) ((more (x - 2 ^ n)).from w.1))))
            (less-or x (2 ^ n)));
      }))
      (λ t. rw t (record {
        to = λ a. wider n (suc k) x ((less x).to a);
        from = λ h. ⊎_elim (λ b. (less x).from (lower n (suc k) x h b)) (λ b. absurd (false-true (sym t ∙ (without n k x h b).0))) (less-or x (2 ^ n));
      }))

  -- the numbers rise
  rising-sized : (n k : ℕ) → Sorted ◌<◌ (sets_of_size test n k)
  unfolding sets_of_size
  rising-sized n zero = (λ y z. absurd z, tt)
  rising-sized zero (suc k) = tt
  rising-sized (suc n) (suc k) =
      by_test (test n)
      (λ t. rw t (sorted-append ◌<◌ (sets_of_size test n (suc k)) (map (λ z. 2 ^ n + z) (sets_of_size test n k)) (rising-sized n (suc k))
      (sorted-map ◌<◌ ◌<◌ (λ z. 2 ^ n + z) (sets_of_size test n k) (λ x y a b l. omega arith) (rising-sized n k))
      (λ x y a b.
      let c = ((listed-sized n (suc k) x).to a).below in
      let d = (listed-of-map (λ z. 2 ^ n + z) (sets_of_size test n k) y b).2 in
      omega arith)))
      (λ t. rw t (rising-sized n (suc k)))

  sorted-sized : (n k : ℕ) → Sorted Before (sets_of_size test n k)
  unfolding Before
  sorted-sized n k =
      sorted-change ◌<◌ Before (sets_of_size test n k)
      (λ x y a b l. inr (((listed-sized n k x).to a).size ∙ sym ((listed-sized n k y).to b).size, l))
      (rising-sized n k)

  -- ---- the sets of all sizes up to k

  pub listed-up-to : (n k x : ℕ) → Iff (Listed (sets_up_to test n k) x) ((ones x ≤ k) × SizedSet test n (ones x) x)
  unfolding sets_up_to
  listed-up-to n zero x =
      let z = listed-sized n zero x in
      record {
        to = λ m. let h = z.to m in (let q = h.size in omega arith, record { below = h.below; size = refl; each = h.each });
        from = λ p. z.from (record { below = p.1.below; size = let l = p.0 in omega arith; each = p.1.each });
      }
  listed-up-to n (suc k) x =
      let z = listed-sized n (suc k) x in
      let ih = listed-up-to n k x in
      let app = listed-append (sets_up_to test n k) (sets_of_size test n (suc k)) x in
      record {
        to = λ m. ⊎_elim (λ a. let h = ih.to a in (let q = h.0 in omega arith, h.1))
            (λ a. let h = z.to a in (let q = h.size in omega arith, record { below = h.below; size = refl; each = h.each }))
            (app.to m);
        from = λ p. app.from (⊎_elim (λ e. inr (z.from (record { below = p.1.below; size = e; each = p.1.each })))
            (λ d. inl (ih.from (let l = p.0 in omega (arith, d), p.1))) (same_or (ones x) (suc k)));
      }

  sorted-up-to : (n k : ℕ) → Sorted Before (sets_up_to test n k)
  unfolding sets_up_to Before
  sorted-up-to n zero = sorted-sized n zero
  sorted-up-to n (suc k) =
      sorted-append Before (sets_up_to test n k) (sets_of_size test n (suc k)) (sorted-up-to n k) (sorted-sized n (suc k))
      (λ x y a b. inl (let p = ((listed-up-to n k x).to a).0 in let q = ((listed-sized n (suc k) y).to b).size in omega arith))

-- ---- the sets of chosen vertices

decide-chosen : (loss : Bool) (s : Setup) (v : ℕ) → Decides (Chosen loss s v) (is_chosen loss s v)
unfolding is_chosen
decide-chosen loss s v = decide-eqb (given (value_of loss (vertex_at s v))) 1

pub listed-sets : (loss : Bool) (s : Setup) → WellFormed s → (x : ℕ) → Iff (Listed (sets_of loss s) x) ((v : ℕ) → Member x v → Chosen loss s v)
unfolding sets_of
listed-sets loss s wf x =
    record {
      to = λ m v i. (decide-chosen loss s v).yes (((listed-up-to (is_chosen loss s) s.count s.count x).to m).1.each v i);
      from = λ c.
          let b = below-pow s.count x wf.most (λ v i. chosen-below loss s wf v (c v i)) in
          (listed-up-to (is_chosen loss s) s.count s.count x).from
          (ones-le s.count x b, record { below = b; size = refl; each = λ v i. by_test (is_chosen loss s v) (λ e. e) (λ e. absurd ((decide-chosen loss s v).no e (c v i))) });
    }

pub sorted-sets : (loss : Bool) (s : Setup) → Sorted Before (sets_of loss s)
unfolding sets_of
sorted-sets loss s = sorted-up-to (is_chosen loss s) s.count s.count
