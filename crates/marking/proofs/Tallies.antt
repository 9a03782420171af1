-- The counts of marks, from how many different sets are in each family and in all.
-- Assumes nothing.
use mathlib.Core.Path.{◌≡◌, refl, sym, subst, ◌∙◌}
use mathlib.Core.Bool.{Bool}
use mathlib.Core.List.{List, [], ◌∷◌}
use mathlib.Core.Logic.{◌⊎◌, inl, inr, ⊎_elim}
use Prim.Native.Nat.{ℕ, ◌+◌, ◌-◌, ◌^◌, ◌≤◌, ◌<◌}
use native.Mathlib.Omega.{arith}
use lib.Bits.{bit_and}
use lib.Dec.{eqb}
use lib.ListN.{length}
use Rattle.vertex_set.specs.Set.{Within, Iff}
use Rattle.vertex_set.specs.Order.{Listed}
use Rattle.vertex_set.proofs.Cases.{same_or, by_test}
use Rattle.vertex_set.proofs.Decisions.{iff-trans}
use Rattle.vertex_set.proofs.Lists.{listed-or, place_of}
use Rattle.vertex_set.proofs.Sets.{within-decided}
use Rattle.setup.specs.declared.Graph.{Graph}
use Rattle.setup.specs.declared.Setup.{Setup}
use Rattle.derivations.specs.Derivation.{Derivation}
use Rattle.derivations.specs.Both.{rule_of}
use Rattle.families.specs.Inner.Family.{In, size}
use Rattle.families.specs.Inner.Masks.{MaskOf}
use Rattle.family_lists.proofs.Order.{Words}
use Rattle.family_lists.proofs.SetsOfFamily as sets
use Rattle.tables.proofs.Tables.{derivation-rising}
use Rattle.bases.specs.Base.{TargetSet, MinimalSet}
use Rattle.bases.specs.Marks.{Mark, Repeated, Shut, Loose, Right, SmallerDerives, CountsAs, MarkedAs, tally}
use Rattle.bases.proofs.Bridge.{target-has, minimal-smallest, minimal-within}
use Rattle.outsiders.specs.Inner.Outsiders.{HasSize, OutsiderOf}
use Rattle.marking.specs.Inner.Counting.{Seen, meet, CanMark}
use Rattle.marking.specs.Inner.Marking.{Markable, MarkedAll}
use Rattle.marking.proofs.Seeing.{family-size, meet-size, size-of-sets}
use Rattle.outsiders.proofs.Sizes.{size_none, size_same, size-more, size-join, size-le, size-unique, size-listed}

-- ---- how often marks are given

-- The sum of the weights of the marks.
abbrev sum_of : (Mark → ℕ) → List Mark → ℕ
sum_of w [] = 0
sum_of w (m ∷ ms) = w m + sum_of w ms

abbrev is_right : Mark → ℕ
is_right Repeated = 0
is_right Shut = 0
is_right Loose = 0
is_right Right = 1

-- a set of the target, minimal or not
abbrev is_target : Mark → ℕ
is_target Repeated = 0
is_target Shut = 0
is_target Loose = 1
is_target Right = 1

abbrev is_new : Mark → ℕ
is_new Repeated = 0
is_new Shut = 1
is_new Loose = 1
is_new Right = 1

sum-right : (ms : List Mark) → sum_of is_right ms ≡ tally Right ms
sum-right [] = refl
sum-right (Repeated ∷ ms) = let h = sum-right ms in omega arith
sum-right (Shut ∷ ms) = let h = sum-right ms in omega arith
sum-right (Loose ∷ ms) = let h = sum-right ms in omega arith
sum-right (Right ∷ ms) = let h = sum-right ms in omega arith

sum-target : (ms : List Mark) → sum_of is_target ms ≡ tally Loose ms + tally Right ms
sum-target [] = refl
sum-target (Repeated ∷ ms) = let h = sum-target ms in omega arith
sum-target (Shut ∷ ms) = let h = sum-target ms in omega arith
sum-target (Loose ∷ ms) = let h = sum-target ms in omega arith
sum-target (Right ∷ ms) = let h = sum-target ms in omega arith

sum-new : (ms : List Mark) → sum_of is_new ms ≡ tally Shut ms + tally Loose ms + tally Right ms
sum-new [] = refl
sum-new (Repeated ∷ ms) = let h = sum-new ms in omega arith
sum-new (Shut ∷ ms) = let h = sum-new ms in omega arith
sum-new (Loose ∷ ms) = let h = sum-new ms in omega arith
sum-new (Right ∷ ms) = let h = sum-new ms in omega arith

module _ (loss : Bool) (s : Setup) (g : Graph) (target : ℕ) where
  sum-all : (earlier handed : List ℕ) (ms : List Mark) → MarkedAs loss s g target earlier handed ms → tally Repeated ms + sum_of is_new ms ≡ length handed
  sum-all earlier [] [] m = refl
  sum-all earlier [] (k ∷ ms) m = absurd m
  sum-all earlier (x ∷ h) [] m = absurd m
  sum-all earlier (x ∷ h) (Repeated ∷ ms) m = let i = sum-all (x ∷ earlier) h ms m.1 in omega arith
  sum-all earlier (x ∷ h) (Shut ∷ ms) m = let i = sum-all (x ∷ earlier) h ms m.1 in omega arith
  sum-all earlier (x ∷ h) (Loose ∷ ms) m = let i = sum-all (x ∷ earlier) h ms m.1 in omega arith
  sum-all earlier (x ∷ h) (Right ∷ ms) m = let i = sum-all (x ∷ earlier) h ms m.1 in omega arith

  -- what a set that is not repeated counts as
  abbrev Kind : ℕ → Type 0
  Kind x = (TargetSet loss s g target x → ⊥) ⊎ ((TargetSet loss s g target x × SmallerDerives loss g target x) ⊎ MinimalSet loss s g target x)

  marks-of : (earlier handed : List ℕ) → ((x : ℕ) → Listed handed x → Kind x) → (ms : List Mark) × MarkedAs loss s g target earlier handed ms
  marks-of earlier [] k = ([], tt)
  marks-of earlier (x ∷ h) k = first (marks-of (x ∷ earlier) h (λ y i. k y (inr i))) (listed-or earlier x) (k x (inl refl))
    where
      first : (ms : List Mark) × MarkedAs loss s g target (x ∷ earlier) h ms → Listed earlier x ⊎ (Listed earlier x → ⊥) → Kind x
          → (ms : List Mark) × MarkedAs loss s g target earlier (x ∷ h) ms
      first r (inl l) d = (Repeated ∷ r.0, (l, r.1))
      first r (inr n) (inl t) = (Shut ∷ r.0, ((n, t), r.1))
      first r (inr n) (inr (inl t)) = (Loose ∷ r.0, ((n, t.0, t.1), r.1))
      first r (inr n) (inr (inr t)) = (Right ∷ r.0, ((n, t), r.1))

  -- The weight w of a mark says whether P holds of a set that gets it, repeated ones aside.
  abbrev Tells : (ℕ → Type 0) → (Mark → ℕ) → Type 0
  Tells P w = (earlier : List ℕ) (x : ℕ) (m : Mark) → CountsAs loss s g target earlier x m
      → (Listed earlier x × (w m ≡ 0)) ⊎ ((Listed earlier x → ⊥) × (((w m ≡ 1) × P x) ⊎ ((w m ≡ 0) × (P x → ⊥))))

  tells-right : Tells (MinimalSet loss s g target) is_right
  tells-right earlier x Repeated c = inl (c, refl)
  tells-right earlier x Shut c = inr (c.0, inr (refl, λ p. c.1 p.is))
  tells-right earlier x Loose c = inr (c.0, inr (refl, λ p. let d = c.2 in p.minimal d.subset d.proper d.derives))
  tells-right earlier x Right c = inr (c.0, inl (refl, c.1))

  tells-target : Tells (TargetSet loss s g target) is_target
  tells-target earlier x Repeated c = inl (c, refl)
  tells-target earlier x Shut c = inr (c.0, inr (refl, c.1))
  tells-target earlier x Loose c = inr (c.0, inl (refl, c.1))
  tells-target earlier x Right c = inr (c.0, inl (refl, c.1.is))

  tells-new : Tells (λ x. Unit {0}) is_new
  tells-new earlier x Repeated c = inl (c, refl)
  tells-new earlier x Shut c = inr (c.0, inl (refl, tt))
  tells-new earlier x Loose c = inr (c.0, inl (refl, tt))
  tells-new earlier x Right c = inr (c.0, inl (refl, tt))

  module _ (P : ℕ → Type 0) (w : Mark → ℕ) (tells : Tells P w) where
    -- the sets that have P and are not among the earlier ones
    abbrev New : List ℕ → List ℕ → ℕ → Type 0
    New earlier h x = Listed h x × (Listed earlier x → ⊥) × P x

    sum-size : (earlier handed : List ℕ) (ms : List Mark) → MarkedAs loss s g target earlier handed ms → HasSize (New earlier handed) (sum_of w ms)
    sum-size earlier [] [] m = size_none (New earlier []) (λ x k. absurd k.0)
    sum-size earlier [] (k ∷ ms) m = absurd m
    sum-size earlier (x ∷ h) [] m = absurd m
    sum-size earlier (x ∷ h) (k ∷ ms) m = first (tells earlier x k m.0) (sum-size (x ∷ earlier) h ms m.1)
      where
        -- another set than x
        kept : (y : ℕ) → New (x ∷ earlier) h y → New earlier (x ∷ h) y
        kept y n = (inr n.0, λ l. n.1 (inr l), n.2)

        back : (y : ℕ) → New earlier (x ∷ h) y → (y ≡ x → ⊥) → New (x ∷ earlier) h y
        back y n d = (⊎_elim (λ e. absurd (d e)) (λ l. l) n.0, ⊎_elim d n.1, n.2)

        first : (Listed earlier x × (w k ≡ 0)) ⊎ ((Listed earlier x → ⊥) × (((w k ≡ 1) × P x) ⊎ ((w k ≡ 0) × (P x → ⊥))))
            → HasSize (New (x ∷ earlier) h) (sum_of w ms) → HasSize (New earlier (x ∷ h)) (w k + sum_of w ms)
        first (inl r) i =
            subst (HasSize (New earlier (x ∷ h))) (let e = r.1 in omega arith)
            (size_same (New (x ∷ earlier) h) (New earlier (x ∷ h))
            (λ y. record { to = kept y; from = λ n. back y n (λ e. n.1 (subst (Listed earlier) (sym e) r.0)) }) i)
        first (inr (n, inr r)) i =
            subst (HasSize (New earlier (x ∷ h))) (let e = r.0 in omega arith)
            (size_same (New (x ∷ earlier) h) (New earlier (x ∷ h))
            (λ y. record { to = kept y; from = λ q. back y q (λ e. r.1 (subst P e q.2)) }) i)
        first (inr (n, inl r)) i =
            subst (HasSize (New earlier (x ∷ h))) (let e = r.0 in omega arith)
            (size_same (λ y. New (x ∷ earlier) h y ⊎ (y ≡ x)) (New earlier (x ∷ h))
            (λ y. record {
              to = ⊎_elim (kept y) (λ e. (inl e, subst (λ (z : ℕ). Listed earlier z → ⊥) (sym e) n, subst P (sym e) r.1));
              from = λ q. ⊎_elim (λ e. inr e) (λ d. inl (back y q d)) (same_or y x);
            })
            (size-more (New (x ∷ earlier) h) (sum_of w ms) x (λ q. q.1 (inl refl)) i))

    sum_is : (handed : List ℕ) (ms : List Mark) (r : ℕ) → MarkedAs loss s g target [] handed ms → HasSize (λ x. Listed handed x × P x) r → r ≡ sum_of w ms
    sum_is handed ms r m h =
        size-unique (λ x. Listed handed x × P x) (New [] handed) r (sum_of w ms)
        (λ x. record { to = λ k. (k.0, λ l. l, k.1); from = λ k. (k.0, k.2) }) h (sum-size [] handed ms m)

-- ---- the sets of the families

module _ (loss : Bool) (s : Setup) (g : Graph) (target chosen : ℕ) (family minimal : List ℕ) (m : Markable loss s g target chosen family minimal) where
  within-chosen : (x : ℕ) → TargetSet loss s g target x → Within x chosen
  within-chosen x t = record { each = λ v p. (m.is_chosen.each v).from (t.chosen v p) }

  in-family : (k x : ℕ) → Within x chosen → MaskOf chosen x k → Iff (In family k) (TargetSet loss s g target x)
  in-family k x w o =
      let h = target-has loss s g target chosen m.is_chosen x in
      let i = sets.by-set chosen (λ held. Derivation (rule_of loss g) held target) (derivation-rising loss g target) family m.fits m.few m.is_family k x o.room (o.of w) in
      record { to = λ k. h.from (w, i.to k); from = λ t. i.from (h.to t).1 }

  in-minimal : (k x : ℕ) → Within x chosen → MaskOf chosen x k → Iff (In minimal k) (MinimalSet loss s g target x)
  in-minimal k x w o =
      let h = minimal-smallest loss s g target chosen m.is_chosen x in
      iff-trans (sets.in-minimal chosen (λ held. Derivation (rule_of loss g) held target) (derivation-rising loss g target) family m.fits m.few m.is_family minimal m.is_minimal k x w o)
      (record { to = h.from; from = h.to })

  -- a set of the target that is not minimal has a proper subset that is
  smaller : (x : ℕ) → TargetSet loss s g target x → (MinimalSet loss s g target x → ⊥) → SmallerDerives loss g target x
  smaller x t n =
      let y = minimal-within loss s g target chosen m.is_chosen family m.fits m.few m.is_family x t in
      record {
        subset = y.0;
        proper = record { within = y.1; other = λ e. n (subst (MinimalSet loss s g target) e y.2) };
        derives = y.2.is.derives;
      }

-- ---- all marks

module _ (chosen : ℕ) (family minimal handed seen : List ℕ) (outsiders : ℕ) (fits : chosen < 2 ^ 64) (can : CanMark chosen family minimal)
    (long : length family ≡ 256) (long_minimal : length minimal ≡ 256) (words : Words handed)
    (is : Seen chosen handed seen) (fits-seen : Words seen) (out : HasSize (OutsiderOf chosen handed 0 18446744073709551615) outsiders) where
  of-minimal : HasSize (λ k. In seen k × In minimal k) (size (meet seen minimal))
  of-minimal = meet-size seen minimal (is.words ∙ sym long_minimal) fits-seen

  of-family : HasSize (λ k. In seen k × In family k) (size (meet seen family))
  of-family = meet-size seen family (is.words ∙ sym long) fits-seen

  pub right_le : size (meet seen minimal) ≤ size (meet seen family)
  right_le =
      size-le (λ k. In seen k × In minimal k) (λ k. In seen k × In family k) (size (meet seen minimal)) (size (meet seen family))
      (λ k h. (h.0, ((can.is_minimal.least k ((is.each k).to h.0).mask.room).to h.1).is)) of-minimal of-family

  pub opening-le : size (meet seen family) ≤ size seen
  opening-le = size-le (λ k. In seen k × In family k) (In seen) (size (meet seen family)) (size seen) (λ k h. h.0) of-family (family-size seen fits-seen)

  inside : HasSize (λ x. Listed handed x × Within x chosen) (size seen)
  inside =
      size-of-sets chosen handed (In seen) (λ x. Within x chosen) (size seen) fits can.few (λ k. (is.each k).to) (λ x w. w)
      (λ k x l w o. record { to = λ h. w; from = λ h. (is.each k).from (record { set = x; listed = l; within = w; mask = o }) }) (family-size seen fits-seen)

  all : HasSize (λ x. Listed handed x × Unit {0}) (size seen + outsiders)
  all =
      size_same (λ x. (Listed handed x × Within x chosen) ⊎ OutsiderOf chosen handed 0 18446744073709551615 x) (λ x. Listed handed x × Unit {0})
      (λ x. record { to = ⊎_elim (λ h. (h.0, tt)) (λ h. (h.listed, tt)); from = λ h. either_way x h.0 })
      (size-join (λ x. Listed handed x × Within x chosen) (OutsiderOf chosen handed 0 18446744073709551615) (size seen) outsiders (λ x a b. b.is.outside a.1) inside out)
    where
      either_way : (x : ℕ) → Listed handed x → (Listed handed x × Within x chosen) ⊎ OutsiderOf chosen handed 0 18446744073709551615 x
      either_way x h =
          let p = place_of handed x h in
          let l : x < 2 ^ 64 = subst (λ (y : ℕ). y < 2 ^ 64) p.2 (words p.0) in
          let d = within-decided x chosen l fits in
          by_test (eqb (bit_and x ((2 ^ 64 - 1) - chosen)) 0) (λ e. inl (h, d.yes e))
          (λ e. inr (record { listed = h; is = record { outside = d.no e; from = omega arith; to = omega arith } }))

  pub different-le : size seen + outsiders ≤ length handed
  different-le = size-listed (λ x. Listed handed x × Unit {0}) handed (size seen + outsiders) (λ x h. h.0) all

  pub marked_all : MarkedAll chosen family minimal handed (size (meet seen minimal)) (length handed - (size seen + outsiders)) (size seen + outsiders - size (meet seen family))
      (size (meet seen family) - size (meet seen minimal))
  marked_all = record { each = marked }
    where
      marked : (loss : Bool) (s : Setup) (g : Graph) (target : ℕ) → Markable loss s g target chosen family minimal
          → (ms : List Mark) × MarkedAs loss s g target [] handed ms × (size (meet seen minimal) ≡ tally Right ms) × (length handed - (size seen + outsiders) ≡ tally Repeated ms)
          × (size seen + outsiders - size (meet seen family) ≡ tally Shut ms) × (size (meet seen family) - size (meet seen minimal) ≡ tally Loose ms)
      marked loss s g target m =
          let rights : HasSize (λ x. Listed handed x × MinimalSet loss s g target x) (size (meet seen minimal)) =
          size-of-sets chosen handed (λ k. In seen k × In minimal k) (MinimalSet loss s g target) (size (meet seen minimal)) fits can.few (λ k h. (is.each k).to h.0)
          (λ x t. within-chosen loss s g target chosen family minimal m x t.is)
          (λ k x l w o. let i = in-minimal loss s g target chosen family minimal m k x w o in
          record { to = λ h. i.to h.1; from = λ h. ((is.each k).from (record { set = x; listed = l; within = w; mask = o }), i.from h) }) of-minimal in
          let targets : HasSize (λ x. Listed handed x × TargetSet loss s g target x) (size (meet seen family)) =
          size-of-sets chosen handed (λ k. In seen k × In family k) (TargetSet loss s g target) (size (meet seen family)) fits can.few (λ k h. (is.each k).to h.0)
          (within-chosen loss s g target chosen family minimal m)
          (λ k x l w o. let i = in-family loss s g target chosen family minimal m k x w o in
          record { to = λ h. i.to h.1; from = λ h. ((is.each k).from (record { set = x; listed = l; within = w; mask = o }), i.from h) }) of-family in
          let kind : (x : ℕ) → Listed handed x → Kind loss s g target x =
          λ x l. ⊎_elim (λ h. inr (inr ((rights.each x).to h).1))
          (λ n. ⊎_elim (λ h. let t = ((targets.each x).to h).1 in inr (inl (t, smaller loss s g target chosen family minimal m x t (λ q. n ((rights.each x).from (l, q))))))
          (λ k. inl (λ t. k ((targets.each x).from (l, t)))) (listed-or targets.list x)) (listed-or rights.list x) in
          let ms = marks-of loss s g target [] handed kind in
          let a = sum_is loss s g target (MinimalSet loss s g target) is_right (tells-right loss s g target) handed ms.0 (size (meet seen minimal)) ms.1 rights in
          let b = sum_is loss s g target (TargetSet loss s g target) is_target (tells-target loss s g target) handed ms.0 (size (meet seen family)) ms.1 targets in
          let c = sum_is loss s g target (λ x. Unit {0}) is_new (tells-new loss s g target) handed ms.0 (size seen + outsiders) ms.1 all in
          let d = sum-all loss s g target [] handed ms.0 ms.1 in
          let e = sum-right ms.0 in
          let f = sum-target ms.0 in
          let n = sum-new ms.0 in
          (ms.0, ms.1, omega arith, omega arith, omega arith, omega arith)
