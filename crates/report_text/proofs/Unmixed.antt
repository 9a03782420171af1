-- Sheets with unmixed colours print what they printed: for them the graph without recovery is the graph less the recovery edges.
-- Assumes nothing.
use mathlib.Core.Path.{◌≡◌, refl, ap, ◌∙◌}
use mathlib.Core.List.{List, [], map}
use mathlib.Core.Logic.{⊎_elim}
use Prim.Native.Nat.{ℕ, ◌+◌, ◌-◌, ◌^◌, ◌<◌}
use native.Mathlib.Omega.{arith}
use lib.ListN.{length}
use lib.Bits.{bit_and}
use borrow.Author.Tests.{ne_eqb}
use Rattle.vertex_set.specs.Set.{Iff}
use Rattle.vertex_set.proofs.Cases.{same_or}
use Rattle.vertex_set.proofs.Sets.{bounded-by-members, in-less}
use Rattle.setup.specs.declared.Rows.{Rows}
use Rattle.setup.specs.declared.Graph.{Graph}
use Rattle.setup.specs.declared.Setup.{Setup}
use Rattle.setup.specs.Setup.{rows_at, row_of, row, Edge, ShapedGraph, WithoutRecovery}
use Rattle.setup.proofs.Graphs.{edge-place, edge-colour, graph_same}
use Rattle.formed.specs.WellFormed.{WellFormed}
use Rattle.formed.proofs.Facts.{row_word}
use Rattle.sheet_format.specs.Read.{read_sheet}
use Rattle.sheet_format.proofs.Question12.{accepted-formed}
use Rattle.report_text.specs.Rows.{numbers_from}
use Rattle.report_text.specs.Report.{less_recovery, is_backdoor, is_idle, finding_row, score_section, accepted_report, report_after, report_of}
use Rattle.report_text.specs.Unmixed.{WithoutMarked, less_marked, Unmixed, finding_row_by, accepted_report_by, report_by, UnmixedPrints}
use Rattle.report_text.proofs.Numbers.{length-numbers, at-numbers}
use Rattle.report_text.proofs.Meaning.{less-recovery}

-- ---- the graph less the recovery edges

module _ (s : Setup) (w : WellFormed s) where
  recovery-word : (v c : ℕ) → row s.recovery v c < 2 ^ 64
  recovery-word v c =
      bounded-by-members 64 (row s.recovery v c) (λ f m. let a = (w.ends f v c (w.marked f v c m)).0 in let b = w.most in omega arith)

  abbrev less : ℕ → ℕ → ℕ
  less v c = bit_and (row s.graph v c) ((2 ^ 64 - 1) - row s.recovery v c)

  abbrev less_rows : ℕ → Rows
  less_rows v = record { needs = map (less v) (numbers_from 0 8) }

  marked-rows : (v : ℕ) → v < 64 → rows_at (less_marked s) v ≡ less_rows v
  unfolding less_marked
  marked-rows v h = let e : 0 + v ≡ v = omega arith in at-numbers less_rows 0 64 v (record { needs = [] }) h ∙ ap less_rows e

  marked_row : (v c : ℕ) → v < 64 → c < 8 → row (less_marked s) v c ≡ less v c
  marked_row v c h l =
      let e : 0 + c ≡ c = omega arith in ap (λ (r : Rows). row_of r c) (marked-rows v h) ∙ at-numbers (less v) 0 8 c 0 l ∙ ap (less v) e

  marked-shaped : ShapedGraph (less_marked s)
  unfolding less_marked
  marked-shaped =
      record {
        places = length-numbers less_rows 0 64;
        colours = λ v h. ap (λ (r : Rows). length r.needs) (marked-rows v h) ∙ length-numbers (less v) 0 8;
      }

  -- it is edge by edge what it says
  less-marked : WithoutMarked s (less_marked s)
  less-marked =
      record {
        shaped = marked-shaped;
        each = λ f v c. record {
          to = λ m.
              let h = edge-place (less_marked s) marked-shaped.places f v c m in
              let l = edge-colour (rows_at (less_marked s) v) (marked-shaped.colours v h) f c m in
              (inside f v c h l).to m;
          from = λ p.
              let h = edge-place s.graph w.shaped.graph.places f v c p.0 in
              let l = edge-colour (rows_at s.graph v) (w.shaped.graph.colours v h) f c p.0 in
              (inside f v c h l).from p;
        };
      }
    where
      inside : (f v c : ℕ) → v < 64 → c < 8 → Iff (Edge (less_marked s) f v c) (Edge s.graph f v c × (Edge s.recovery f v c → ⊥))
      inside f v c h l = rw (marked_row v c h l) (in-less (row s.graph v c) (row s.recovery v c) f (row_word s w v c) (recovery-word v c))

-- ---- unmixed colours

-- no edge of the colour is marked where one is not
unmixed-alike : (s : Setup) → Unmixed s → (g : Graph) → Iff (WithoutRecovery s g) (WithoutMarked s g)
unmixed-alike s u g =
    record {
      to = λ h. record {
        shaped = h.shaped;
        each = λ f v c. record {
          to = λ m. let p = (h.each f v c).to m in (p.0, p.1 f);
          from = λ p. (h.each f v c).from (p.0, λ e k. p.1 (u e f v c k p.0));
        };
      };
      from = λ h. record {
        shaped = h.shaped;
        each = λ f v c. record {
          to = λ m. let p = (h.each f v c).to m in (p.0, λ e k. p.1 (u e f v c k p.0));
          from = λ p. (h.each f v c).from (p.0, p.1 f);
        };
      };
    }

unmixed-graph : (s : Setup) → WellFormed s → Unmixed s → less_recovery s ≡ less_marked s
unmixed-graph s w u =
    let a = (unmixed-alike s u (less_recovery s)).to (less-recovery s w) in
    let b = less-marked s w in
    graph_same (less_recovery s) (less_marked s) a.shaped b.shaped
    (λ f v c. record { to = λ m. (b.each f v c).from ((a.each f v c).to m); from = λ m. (a.each f v c).from ((b.each f v c).to m) })

-- ---- the report

report-by : (sheet : List ℕ) → report_of sheet ≡ report_by (less_recovery (read_sheet sheet).setup) sheet
unfolding is_backdoor is_idle finding_row score_section accepted_report report_after report_of finding_row_by accepted_report_by report_by
report-by sheet = refl

-- a refused sheet has no findings
refused-by : (g k : Graph) (sheet : List ℕ) → ((read_sheet sheet).number ≡ 0 → ⊥) → report_by g sheet ≡ report_by k sheet
unfolding report_by
refused-by g k sheet n = rw (ne_eqb (read_sheet sheet).number 0 n) refl

unmixed-report : (sheet : List ℕ) → Unmixed (read_sheet sheet).setup → report_of sheet ≡ report_by (less_marked (read_sheet sheet).setup) sheet
unmixed-report sheet u =
    report-by sheet
    ∙ ⊎_elim
    (λ z. ap (λ (g : Graph). report_by g sheet) (unmixed-graph (read_sheet sheet).setup (accepted-formed sheet z) u))
    (λ n. refused-by (less_recovery (read_sheet sheet).setup) (less_marked (read_sheet sheet).setup) sheet n)
    (same_or (read_sheet sheet).number 0)

pub unmixed-prints : (sheet : List ℕ) → UnmixedPrints sheet
unmixed-prints sheet =
    record {
      whole = report-by sheet;
      marked = λ z. less-marked (read_sheet sheet).setup (accepted-formed sheet z);
      alike = unmixed-alike (read_sheet sheet).setup;
      same = λ z. unmixed-graph (read_sheet sheet).setup (accepted-formed sheet z);
      prints = unmixed-report sheet;
    }
