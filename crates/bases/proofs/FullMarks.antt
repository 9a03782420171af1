-- Full marks are given exactly where they are due: the handed-in list has the base's sets, each once, and no other.
-- Assumes nothing.
use mathlib.Core.Path.{◌≡◌, refl, sym, subst, ◌∙◌}
use mathlib.Core.Bool.{Bool}
use mathlib.Core.List.{List, [], ◌∷◌}
use mathlib.Core.Logic.{inl, inr, ⊎_elim}
use Prim.Native.Nat.{ℕ}
use native.Mathlib.Omega.{arith}
use lib.ListN.{length}
use Rattle.vertex_set.specs.Set.{Iff}
use Rattle.vertex_set.specs.Order.{Listed, Once}
use Rattle.vertex_set.proofs.Lists.{once-le, once-all, ordered-once}
use Rattle.setup.specs.declared.Graph.{Graph}
use Rattle.setup.specs.declared.Setup.{Setup}
use Rattle.bases.specs.Base.{MinimalSet}
use Rattle.bases.specs.Marks.{Mark, Repeated, Shut, Loose, Right, MarkedAs, tally, Counts, IsBaseOnce, Full}

-- ---- marks, one by one

module _ (loss : Bool) (s : Setup) (g : Graph) (target : ℕ) where
  -- all marks are right: nothing is repeated, and every set is of the base
  all_right : (earlier handed : List ℕ) (ms : List Mark) → MarkedAs loss s g target earlier handed ms → tally Repeated ms ≡ 0 → tally Shut ms ≡ 0 → tally Loose ms ≡ 0
      → (tally Right ms ≡ length handed) × Once handed × ((x : ℕ) → Listed handed x → MinimalSet loss s g target x × (Listed earlier x → ⊥))
  all_right earlier [] [] m r h l = (refl, tt, λ x i. absurd i)
  all_right earlier [] (k ∷ ms) m r h l = absurd m
  all_right earlier (x ∷ hs) [] m r h l = absurd m
  all_right earlier (x ∷ hs) (Repeated ∷ ms) m r h l = absurd (omega arith)
  all_right earlier (x ∷ hs) (Shut ∷ ms) m r h l = absurd (omega arith)
  all_right earlier (x ∷ hs) (Loose ∷ ms) m r h l = absurd (omega arith)
  all_right earlier (x ∷ hs) (Right ∷ ms) m r h l =
      let q = all_right (x ∷ earlier) hs ms m.1 (omega arith) (omega arith) (omega arith) in
      let n = q.0 in (
        omega arith,
        (λ i. (q.2 x i).1 (inl refl), q.1),
        λ y. ⊎_elim (λ e. (subst (MinimalSet loss s g target) (sym e) m.0.1, subst (λ (z : ℕ). Listed earlier z → ⊥) (sym e) m.0.0)) (λ i. ((q.2 y i).0, λ k. (q.2 y i).1 (inr k))),
      )

  -- sets of the base, each once: all marks are right
  right-all : (earlier handed : List ℕ) (ms : List Mark) → MarkedAs loss s g target earlier handed ms → Once handed
      → ((x : ℕ) → Listed handed x → MinimalSet loss s g target x × (Listed earlier x → ⊥))
      → (tally Right ms ≡ length handed) × (tally Repeated ms ≡ 0) × (tally Shut ms ≡ 0) × (tally Loose ms ≡ 0)
  right-all earlier [] [] m o h = (refl, refl, refl, refl)
  right-all earlier [] (k ∷ ms) m o h = absurd m
  right-all earlier (x ∷ hs) [] m o h = absurd m
  right-all earlier (x ∷ hs) (Repeated ∷ ms) m o h = absurd ((h x (inl refl)).1 m.0)
  right-all earlier (x ∷ hs) (Shut ∷ ms) m o h = absurd (m.0.1 (h x (inl refl)).0.is)
  right-all earlier (x ∷ hs) (Loose ∷ ms) m o h = let d = m.0.2 in absurd ((h x (inl refl)).0.minimal d.subset d.proper d.derives)
  right-all earlier (x ∷ hs) (Right ∷ ms) m o h =
      let q = right-all (x ∷ earlier) hs ms m.1 o.1 (λ y i. ((h y (inr i)).0, ⊎_elim (λ e. o.0 (subst (Listed hs) e i)) (h y (inr i)).1)) in
      let a = q.0 in
      let b = q.1 in
      let c = q.2 in
      let d = q.3 in
      (omega arith, omega arith, omega arith, omega arith)

  pub full-marks : (handed : List ℕ) (right repeated shut loose missing : ℕ) → Counts loss s g target handed right repeated shut loose missing
      → Iff (Full repeated shut loose missing) (IsBaseOnce loss s g target handed)
  full-marks handed right repeated shut loose missing c = record { to = to; from = from }
    where
      to : Full repeated shut loose missing → IsBaseOnce loss s g target handed
      to f =
          let q = all_right [] handed c.marks c.marked (sym c.is_repeated ∙ f.none_repeated) (sym c.is_shut ∙ f.none_shut) (sym c.is_loose ∙ f.none_loose) in
          let n = q.0 in
          let r = c.is_right in
          let m = c.is_missing in
          let z = f.none_missing in
          record {
            sets = λ x. record {
              to = λ i. (q.2 x i).0;
              from = λ h. once-all handed c.base q.1 (λ y i. c.is_base.whole y (q.2 y i).0) (omega arith) x (c.is_base.whole x h);
            };
            once = q.1;
          }

      from : IsBaseOnce loss s g target handed → Full repeated shut loose missing
      from b =
          let q = right-all [] handed c.marks c.marked b.once (λ x i. ((b.sets x).to i, λ k. k)) in
          let n = q.0 in
          let r = c.is_right in
          let m = c.is_missing in
          let l = once-le c.base handed (ordered-once c.base c.is_base.ordered) (λ x i. (b.sets x).from (c.is_base.sound x i)) in
          record {
            none_repeated = c.is_repeated ∙ q.1;
            none_shut = c.is_shut ∙ q.2;
            none_loose = c.is_loose ∙ q.3;
            none_missing = omega arith;
          }
