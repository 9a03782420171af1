-- A list of cut sets is no longer than the forecast for the access base: its sets lie within the counted vertices, and none within another.
-- Assumes nothing.
use mathlib.Core.Path.{sym, subst}
use mathlib.Core.Bool.{false}
use mathlib.Core.List.{List}
use mathlib.Core.Logic.{⊎_elim}
use Prim.Native.Nat.{ℕ, ◌≤◌}
use lib.Bits.{bit_and}
use lib.ListN.{length}
use Rattle.vertex_set.specs.Set.{Member, Within}
use Rattle.vertex_set.specs.Order.{Smallest}
use Rattle.vertex_set.proofs.Cases.{same_or}
use Rattle.vertex_set.proofs.Sets.{in_and}
use Rattle.setup.specs.declared.Setup.{Setup}
use Rattle.setup.specs.Setup.{Chosen}
use Rattle.antichains.specs.Antichains.{Antichain}
use Rattle.antichains.proofs.Minimal.{minimal-antichain}
use Rattle.antichains.proofs.Sperner.{sperner}
use Rattle.forecasts.specs.Forecast.{here, CountedSet, Forecast}
use Rattle.forecasts.proofs.Bounds.{reaching-alone, longest-chosen}
use Rattle.cut_sets.specs.Cuts.{CutSet, CutList, LongestCuts}

module _ (s : Setup) (target counted : ℕ) (c : CountedSet s target counted) where
  -- the counted vertices of a smallest cut set are a cut set too, and so are all of it
  smallest-counted : (x : ℕ) → Smallest (CutSet s target) x → Within x counted
  smallest-counted x h =
      ⊎_elim
      (λ e. record { each = λ i k. ((in_and x counted i).to (subst (λ (y : ℕ). Member y i) (sym e) k)).1 })
      (λ n. absurd (h.none (bit_and x counted) (record { within = record { each = λ i k. ((in_and x counted i).to k).0 }; other = n }) cut))
      (same_or (bit_and x counted) x)
    where
      cut : CutSet s target (bit_and x counted)
      cut =
          record {
            chosen = λ v m. h.is.chosen v ((in_and x counted v).to m).0;
            shut = λ d. h.is.shut
                (reaching-alone s.graph target (λ v. Chosen false s v × (Member (bit_and x counted) v → ⊥)) (λ v. Chosen false s v × (Member x v → ⊥))
                (λ i r p. (p.0, λ k. p.1 ((in_and x counted i).from (k, (c.each i).from (p.0, r))))) target d here);
          }

module _ (s : Setup) (target : ℕ) (cuts : List ℕ) (c : CutList s target cuts) where
  cut-antichain : Antichain cuts
  cut-antichain = minimal-antichain (CutSet s target) cuts c.ordered (λ x h. (c.sound x h).is) (λ x y h p k. (c.sound y h).none x p k)

  pub cuts-foretold : (counted n : ℕ) → Forecast s target counted n → length cuts ≤ n
  cuts-foretold counted n f =
      subst (λ (k : ℕ). length cuts ≤ k) (sym f.ways)
      (sperner counted cuts (λ x h. smallest-counted s target counted f.is_counted x (c.sound x h)) cut-antichain)

pub longest-cuts : LongestCuts
longest-cuts s target cuts w c = longest-chosen false s cuts w (λ x h. (c.sound x h).is.chosen) (cut-antichain s target cuts c)
