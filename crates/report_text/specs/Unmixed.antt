-- Sheets with unmixed colours print what they printed (document 02, point 3). Document 01's "without recovery" took out the recovery edges alone; it is
-- kept here for this statement, and no contract cites it. Statements only; proofs/Unmixed.antt has the theorem.
use Rattle.std.specs.Prelude.{◌≡◌, false, true, cond, List, ◌∷◌, ◌++◌, map, ℕ, ◌-◌, ◌^◌, eqb, ltb, leb}
use Rattle.std.specs.Int.Bits.{bit_and}
use Rattle.vertex_set.specs.Set.{Iff}
use Rattle.setup.specs.declared.Graph.{Graph}
use Rattle.setup.specs.declared.Setup.{Setup}
use Rattle.setup.specs.Setup.{row, Edge, ShapedGraph, WithoutRecovery}
use Rattle.sheet_format.specs.Read.{read_sheet}
use Rattle.sheet_format.specs.Names.{name_of}
use Rattle.reference.specs.Bases.{score_of}
use Rattle.report_text.specs.Rows.{numbers_from, texts_of, score_row, refused_row, score_header}
use Rattle.report_text.specs.Report.{less_recovery, accounts_of, list_section, pair_section, report_of}

-- ---- document 01's graph without recovery

-- The graph less the recovery edges, edge by edge.
pub record WithoutMarked (s : Setup) (g : Graph) : Type 0 where
  pub shaped : ShapedGraph g
  pub each : (f v c : ℕ) → Iff (Edge g f v c) (Edge s.graph f v c × (Edge s.recovery f v c → ⊥))

-- The graph less the recovery edges, worked out: of each row, the vertices that are not in the row of recovery edges.
unfoldable pub less_marked : Setup → Graph
less_marked s =
    record {
      rows = map (λ v. record { needs = map (λ c. bit_and (row s.graph v c) ((2 ^ 64 - 1) - row s.recovery v c)) (numbers_from 0 8) }) (numbers_from 0 64);
    }

-- No colour is mixed: where one edge of a colour into a vertex is a recovery edge, each of them is.
abbrev pub Unmixed : Setup → Type 0
Unmixed s = (f e v c : ℕ) → Edge s.recovery f v c → Edge s.graph e v c → Edge s.recovery e v c

-- ---- the report's text, with the scores compared to those in another graph than `less_recovery`

-- The row of one target's score, risk and findings, which compare with the scores in the graph `less`.
unfoldable pub finding_row_by : Graph → (ℕ → List ℕ) → Setup → ℕ → List ℕ
finding_row_by less name s v =
    score_row name v (score_of false s s.graph v) (score_of true s s.graph v) (ltb (score_of false s s.graph v) (score_of false s less v))
    (leb (score_of true s s.graph v) (score_of true s less v))

-- The report of an accepted sheet, with findings by the graph `less`.
unfoldable pub accepted_report_by : Graph → (ℕ → List ℕ) → Setup → List ℕ
accepted_report_by less name s =
    list_section name s ++ (10 ∷ ((score_header ++ texts_of (finding_row_by less name s) (accounts_of s)) ++ (10 ∷ pair_section name s)))

-- The report for the bytes of a sheet, with findings by the graph `less`.
unfoldable pub report_by : Graph → List ℕ → List ℕ
report_by less sheet =
    cond (eqb (read_sheet sheet).number 0) (accepted_report_by less (name_of sheet) (read_sheet sheet).setup)
    (refused_row (read_sheet sheet).number (read_sheet sheet).line)

-- ---- the statement

-- A sheet with unmixed colours prints what it printed when the recovery edges alone were taken out.
pub record UnmixedPrints (sheet : List ℕ) : Type 0 where
  -- the report is that text by the graph without recovery
  pub whole : report_of sheet ≡ report_by (less_recovery (read_sheet sheet).setup) sheet
  -- of an accepted sheet, `less_marked` is document 01's graph
  pub marked : (read_sheet sheet).number ≡ 0 → WithoutMarked (read_sheet sheet).setup (less_marked (read_sheet sheet).setup)
  -- where no colour is mixed, the two graphs are one, and the report has the bytes that it had
  pub alike : Unmixed (read_sheet sheet).setup → (g : Graph) → Iff (WithoutRecovery (read_sheet sheet).setup g) (WithoutMarked (read_sheet sheet).setup g)
  pub same : (read_sheet sheet).number ≡ 0 → Unmixed (read_sheet sheet).setup → less_recovery (read_sheet sheet).setup ≡ less_marked (read_sheet sheet).setup
  pub prints : Unmixed (read_sheet sheet).setup → report_of sheet ≡ report_by (less_marked (read_sheet sheet).setup) sheet
