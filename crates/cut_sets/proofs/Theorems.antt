-- The theorems on cut sets: duality, the empty cut set, that there is always one, and the bound.
-- Assumes nothing.
use mathlib.Core.Bool.{false}
use mathlib.Core.List.{List, [], ◌∷◌}
use mathlib.Core.Logic.{inl, ⊎_elim}
use Prim.Native.Nat.{ℕ, ◌<◌}
use native.Mathlib.Omega.{arith}
use lib.ListN.{length}
use Rattle.vertex_set.specs.Order.{Listed, Smallest}
use Rattle.vertex_set.proofs.Lists.{exactly-unique, exactly-same}
use Rattle.setup.specs.declared.Setup.{Setup}
use Rattle.setup.specs.Setup.{Chosen, ChosenSet}
use Rattle.derivations.specs.Access.{HasAccess}
use Rattle.bases.specs.Base.{MinimalSet}
use Rattle.forecasts.proofs.Bounds.{chosen-set}
use Rattle.cut_sets.specs.Cuts.{CutSet, CutList, MeetsEvery, Transversal, Duality, DualityHolds, CutsMeetBase}
use Rattle.cut_sets.proofs.Sets.{iff-sym, empty-cut, all-cut, cut-within}
use Rattle.cut_sets.proofs.Duality.{cut-sets-meet, smallest-meet, base-again, base-again-listed}
use Rattle.cut_sets.proofs.Bounds.{cuts-foretold}

listed-some : (l : List ℕ) (x : ℕ) → Listed l x → 0 < length l
listed-some [] x h = absurd h
listed-some (y ∷ l) x h = omega arith

-- the list that has the empty set alone
empty-alone : (s : Setup) (target : ℕ) → (HasAccess s.graph (Chosen false s) target → ⊥) → CutList s target (0 ∷ [])
empty-alone s target shut =
    record {
      sound = λ x h. (empty-cut s target shut x).from (⊎_elim (λ e. e) (λ k. absurd k) h);
      whole = λ x h. inl ((empty-cut s target shut x).to h);
      ordered = (λ y k. absurd k, tt);
    }

pub duality-holds : DualityHolds
duality-holds s target cuts w c = holds (chosen-set false s w).0 (chosen-set false s w).1
  where
    holds : (initial : ℕ) → ChosenSet false s initial → Duality s target cuts
    holds initial ch =
        record {
          transversals = λ l b. exactly-same (Smallest (CutSet s target)) (Smallest (Transversal s l)) cuts (smallest-meet s target initial w ch l b) c;
          again = λ l b. exactly-same (MinimalSet false s s.graph target) (Smallest (MeetsEvery (CutSet s target))) l
              (λ x. iff-sym (base-again s target initial w ch x)) b;
          again_listed = λ l b. exactly-same (MinimalSet false s s.graph target) (Smallest (MeetsEvery (Listed cuts))) l
              (λ x. iff-sym (base-again-listed s target initial w ch cuts c x)) b;
          empty = λ shut. exactly-unique (Smallest (CutSet s target)) cuts (0 ∷ []) c (empty-alone s target shut);
          some = let z = cut-within s target initial w ch initial (all-cut s target initial ch) in listed-some cuts z.0 (c.whole z.0 z.2);
          forecast = cuts-foretold s target cuts c;
        }

pub cuts-meet-base : CutsMeetBase
cuts-meet-base s target l w b x = let ch = chosen-set false s w in cut-sets-meet s target ch.0 w ch.1 l b x
