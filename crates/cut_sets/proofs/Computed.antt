-- The smallest cut sets as a function that the checker can run: the smallest sets of initial vertices that meet every set of the access base.
-- Assumes nothing.
use mathlib.Core.Path.{◌≡◌, refl, sym, subst}
use mathlib.Core.Bool.{Bool, true, false, not, ◌&&◌}
use mathlib.Core.List.{List, [], ◌∷◌}
use mathlib.Core.Logic.{inl, inr, ⊎_elim}
use Prim.Native.Nat.{ℕ}
use native.Mathlib.Omega.{arith}
use lib.Dec.{eqb}
use lib.ListN.{length}
use Rattle.vertex_set.specs.Set.{Meets, ProperlyWithin, Decides, Iff}
use Rattle.vertex_set.specs.Order.{Listed, Before, Smallest, ListsExactly}
use Rattle.vertex_set.proofs.Decisions.{decide-yes, decide_iff, decide-eqb, decide-not, decide-and}
use Rattle.vertex_set.proofs.Lists.{exactly-same}
use Rattle.vertex_set.proofs.Sorted.{sorted-ordered}
use Rattle.setup.specs.declared.Setup.{Setup}
use Rattle.formed.specs.WellFormed.{WellFormed}
use Rattle.forecasts.proofs.Bounds.{chosen-set}
use Rattle.reference.specs.Tests.{filtered, is_within, is_meeting}
use Rattle.reference.specs.Bases.{sets_of, base_of}
use Rattle.reference.proofs.Tests.{decide-within, decide-meeting, listed-filtered, sorted-filtered}
use Rattle.reference.proofs.Sets.{listed-sets, sorted-sets}
use Rattle.reference.proofs.Bases.{own-base}
use Rattle.cut_sets.specs.Cuts.{CutSet, CutList, MeetsEvery, Transversal}
use Rattle.cut_sets.proofs.Sets.{iff-sym}
use Rattle.cut_sets.proofs.Duality.{smallest-meet}

-- ---- the functions

-- Does x meet every set of the list?
unfoldable pub meets_each : List ℕ → ℕ → Bool
meets_each [] x = true
meets_each (y ∷ l) x = is_meeting x y && meets_each l x

-- The given sets that are properly within x and meet every set of the list.
unfoldable pub smaller_of : List ℕ → List ℕ → ℕ → List ℕ
smaller_of sets l x = filtered (λ y. (is_within y x && not (eqb y x)) && meets_each l y) sets

-- Does x meet every set of the list, and does no given set that lies properly within x?
unfoldable pub is_smallest : List ℕ → List ℕ → ℕ → Bool
is_smallest sets l x = meets_each l x && eqb (length (smaller_of sets l x)) 0

-- The smallest sets of initial vertices that meet every set of the list.
unfoldable pub transversals_of : Setup → List ℕ → List ℕ
transversals_of s l = filtered (is_smallest (sets_of false s) l) (sets_of false s)

-- The smallest cut sets of the target.
unfoldable pub cuts_of : Setup → ℕ → List ℕ
cuts_of s target = transversals_of s (base_of false s s.graph target)

-- ---- what they are

decide-meets : (l : List ℕ) (x : ℕ) → Decides (MeetsEvery (Listed l) x) (meets_each l x)
unfolding meets_each
decide-meets [] x = decide-yes (record { each = λ y h. absurd h })
decide-meets (y ∷ l) x =
    decide_iff
    (record {
      to = λ p. record { each = λ z h. ⊎_elim (λ e. subst (Meets x) (sym e) p.0) (λ k. p.1.each z k) h };
      from = λ m. (m.each y (inl refl), record { each = λ z h. m.each z (inr h) });
    })
    (decide-and (is_meeting x y) (meets_each l x) (decide-meeting x y) (decide-meets l x))

-- a list of length 0 has nothing
none-listed : (l : List ℕ) → Iff (length l ≡ 0) ((y : ℕ) → Listed l y → ⊥)
none-listed [] = record { to = λ e y h. h; from = λ n. refl }
none-listed (x ∷ l) = record { to = λ e. absurd (omega arith); from = λ n. absurd (n x (inl refl)) }

module _ (s : Setup) (w : WellFormed s) (l : List ℕ) where
  -- y is properly within x, and meets every set of the list
  abbrev Smaller : ℕ → ℕ → Type 0
  Smaller x y = ProperlyWithin y x × MeetsEvery (Listed l) y

  listed-smaller : (x y : ℕ) → Iff (Listed (smaller_of (sets_of false s) l x) y) (Listed (sets_of false s) y × Smaller x y)
  unfolding smaller_of
  listed-smaller x y =
      listed-filtered (Smaller x) _ (sets_of false s)
      (λ z h. decide-and _ _
      (decide_iff (record { to = λ p. record { within = p.0; other = p.1 }; from = λ p. (p.within, p.other) })
      (decide-and _ _ (decide-within z x) (decide-not _ (decide-eqb z x)))) (decide-meets l z)) y

  decide-smallest : (x : ℕ) → Listed (sets_of false s) x → Decides (Smallest (Transversal s l) x) (is_smallest (sets_of false s) l x)
  unfolding is_smallest
  decide-smallest x h =
      decide_iff
      (record {
        to = λ p. record {
          is = record { chosen = (listed-sets false s w x).to h; meets = p.0 };
          none = λ y q t. (none-listed (smaller_of (sets_of false s) l x)).to p.1 y ((listed-smaller x y).from ((listed-sets false s w y).from t.chosen, (q, t.meets)));
        };
        from = λ m. (
          m.is.meets,
          (none-listed (smaller_of (sets_of false s) l x)).from
              (λ y k. let p = (listed-smaller x y).to k in m.none y p.1.0 (record { chosen = (listed-sets false s w y).to p.0; meets = p.1.1 })),
        );
      })
      (decide-and (meets_each l x) _ (decide-meets l x) (decide-eqb (length (smaller_of (sets_of false s) l x)) 0))

  transversals-of : ListsExactly (Smallest (Transversal s l)) (transversals_of s l)
  unfolding transversals_of
  transversals-of =
      record {
        sound = λ x h. ((listed x).to h).1;
        whole = λ x h. (listed x).from ((listed-sets false s w x).from h.is.chosen, h);
        ordered = sorted-ordered (transversals_of s l) (sorted-filtered Before (is_smallest (sets_of false s) l) (sets_of false s) (sorted-sets false s));
      }
    where
      listed : (x : ℕ) → Iff (Listed (filtered (is_smallest (sets_of false s) l) (sets_of false s)) x) (Listed (sets_of false s) x × Smallest (Transversal s l) x)
      listed x = listed-filtered (Smallest (Transversal s l)) (is_smallest (sets_of false s) l) (sets_of false s) decide-smallest x

pub cuts-of : (s : Setup) (target : ℕ) → WellFormed s → CutList s target (cuts_of s target)
unfolding cuts_of
cuts-of s target w =
    let c = chosen-set false s w in
    let l : List ℕ = base_of false s s.graph target in
    exactly-same (Smallest (Transversal s l)) (Smallest (CutSet s target)) (transversals_of s l)
    (λ x. iff-sym (smallest-meet s target c.0 w c.1 l (own-base false s target w) x))
    (transversals-of s w l)
