-- A setup is well formed exactly where its parts fit.
-- Assumes nothing.
use mathlib.Core.Path.{◌≡◌}
use mathlib.Core.Bool.{Bool}
use Prim.Native.Nat.{◌≤◌, ◌<◌}
use native.Mathlib.Nat.{lt_of_lt_of_le}
use lib.ListN.{length}
use Rattle.vertex_set.specs.Set.{Decides}
use Rattle.vertex_set.proofs.Decisions.{decide_iff}
use Rattle.setup.specs.declared.Setup.{Setup}
use Rattle.setup.specs.Setup.{rows_at, chosen_count}
use Rattle.setup.proofs.Graphs.{edge-place, edge-colour}
use Rattle.formed.specs.WellFormed.{WellFormed}
use Rattle.formed.specs.Inner.Parts.{GraphsFit, VerticesFit, HoldingFits}

pub graphs-of : (s : Setup) → WellFormed s → GraphsFit s.count s.graph s.recovery
graphs-of s w =
    record {
      each = λ v l. record {
        ends = λ f c k m. w.ends f v c m;
        marked = λ f c k m. w.marked f v c m;
        long = w.shaped.graph.colours v l;
        long_marked = w.shaped.recovery.colours v l;
      };
      edges = w.edges;
    }

pub vertices-of : (s : Setup) → WellFormed s → VerticesFit s.count s.vertices
unfolding chosen_count
vertices-of s w =
    record {
      each = λ v l. record { used = w.used v; unused = w.unused v l };
      initial = w.initial;
      losable = w.losable;
    }

holding-of : (s : Setup) → WellFormed s → HoldingFits s.count s.graph s.held.0 s.opened.0
holding-of s w = record { holds = w.holds.each; opens = w.opens }

module _ (s : Setup) (lv : length s.vertices ≡ 64) (lg : length s.graph.rows ≡ 64) (lr : length s.recovery.rows ≡ 64) (some : 0 < s.count) (most : s.count ≤ 64) where
  of_parts : GraphsFit s.count s.graph s.recovery → VerticesFit s.count s.vertices
      → HoldingFits s.count s.graph s.held.0 s.opened.0 → WellFormed s
  unfolding chosen_count
  of_parts g n h =
      record {
        shaped = record {
          places = lv;
          graph = record { places = lg; colours = λ v l. (g.each v l).long };
          recovery = record { places = lr; colours = λ v l. (g.each v l).long_marked };
        };
        some = some;
        most = most;
        used = λ v l. (n.each v (lt_of_lt_of_le l most)).used l;
        unused = λ v l k. (n.each v l).unused k;
        ends = λ f v c m.
            let e = g.each v (edge-place s.graph lg f v c m) in
            e.ends f c (edge-colour (rows_at s.graph v) e.long f c m) m;
        marked = λ f v c m.
            let e = g.each v (edge-place s.recovery lr f v c m) in
            e.marked f c (edge-colour (rows_at s.recovery v) e.long_marked f c m) m;
        edges = g.edges;
        initial = n.initial;
        losable = n.losable;
        holds = record { each = h.holds };
        opens = h.opens;
      }

  pub whole-yes : (r : Bool) → GraphsFit s.count s.graph s.recovery → VerticesFit s.count s.vertices
      → Decides (HoldingFits s.count s.graph s.held.0 s.opened.0) r → Decides (WellFormed s) r
  whole-yes r g n = decide_iff (record { to = of_parts g n; from = holding-of s })
