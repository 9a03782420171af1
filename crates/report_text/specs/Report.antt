-- The report's text for the bytes of a sheet (document 01, "Report and portal").
use Rattle.std.specs.Prelude.{Bool, true, false, cond, ◌&&◌, List, [], ◌∷◌, ◌++◌, map, ℕ, eqb, ltb, leb}
use Rattle.setup.specs.declared.Kind.{Kind}
use Rattle.setup.specs.declared.Kind.TheVariants.{Credential, Account}
use Rattle.setup.specs.declared.Rows.{Rows}
use Rattle.setup.specs.declared.Graph.{Graph}
use Rattle.setup.specs.declared.Setup.{Setup}
use Rattle.setup.specs.Setup.{vertex_at, rows_at, row_of, row_less}
use Rattle.sheet_format.specs.Read.{Reading}
use Rattle.sheet_format.specs.Read.{read_sheet}
use Rattle.sheet_format.specs.Names.{name_of}
use Rattle.bases.specs.Score.{sum_of}
use Rattle.reference.specs.Tests.{filtered}
use Rattle.reference.specs.Bases.{base_of, score_of}
use Rattle.report_text.specs.Rows.{numbers_from, texts_of, set_row, score_row, pair_row, refused_row, list_header, score_header, pair_header}

-- ---- the graph without recovery

-- The rows of one vertex without recovery, from its rows and its rows of recovery edges.
unfoldable pub rows_less : Rows → Rows → Rows
rows_less rows recovery = record { needs = map (λ c. row_less (row_of rows c) (row_of recovery c)) (numbers_from 0 8) }

-- `WithoutRecovery s`, row by row.
unfoldable pub less_recovery : Setup → Graph
less_recovery s = record { rows = map (λ v. rows_less (rows_at s.graph v) (rows_at s.recovery v)) (numbers_from 0 64) }

-- ---- accounts

-- Is the kind that of an account?
abbrev pub is_account_kind : Kind → Bool
is_account_kind Credential = false
is_account_kind Account = true

-- Is the vertex v an account?
unfoldable pub is_account : Setup → ℕ → Bool
is_account s v = is_account_kind (vertex_at s v).kind

-- The accounts of the setup, in item order.
unfoldable pub accounts_of : Setup → List ℕ
accounts_of s = filtered (is_account s) (numbers_from 0 s.count)

-- ---- findings

-- `Backdoor s v`: the score is below that without recovery.
unfoldable pub is_backdoor : Setup → ℕ → Bool
is_backdoor s v = ltb (score_of false s s.graph v) (score_of false s (less_recovery s) v)

-- `IneffectiveRecovery s v`, idle: the risk is at most that without recovery.
unfoldable pub is_idle : Setup → ℕ → Bool
is_idle s v = leb (score_of true s s.graph v) (score_of true s (less_recovery s) v)

-- `Inconsistent s v w`, out of rank: the rank of v is above that of w, the score of v at most that of w.
unfoldable pub is_out_of_rank : Setup → ℕ → ℕ → Bool
is_out_of_rank s v w = ltb (vertex_at s w).rank (vertex_at s v).rank && leb (score_of false s s.graph v) (score_of false s s.graph w)

-- ---- sections

-- The row of a set of the target's list. Sum adds the start or loss values of its items.
unfoldable pub base_row : (ℕ → List ℕ) → Setup → Bool → ℕ → ℕ → List ℕ
base_row name s loss v x = set_row name loss v x (sum_of loss s x)

-- The rows of one target: its open sets, then its lock sets, in list order.
unfoldable pub target_rows : (ℕ → List ℕ) → Setup → ℕ → List ℕ
target_rows name s v = texts_of (base_row name s false v) (base_of false s s.graph v) ++ texts_of (base_row name s true v) (base_of true s s.graph v)

-- The first section: its header, and the rows of each account's two lists.
unfoldable pub list_section : (ℕ → List ℕ) → Setup → List ℕ
list_section name s = list_header ++ texts_of (target_rows name s) (accounts_of s)

-- The row of one target's score, risk and findings.
unfoldable pub finding_row : (ℕ → List ℕ) → Setup → ℕ → List ℕ
finding_row name s v = score_row name v (score_of false s s.graph v) (score_of true s s.graph v) (is_backdoor s v) (is_idle s v)

-- The second section: its header, and a row for each account's score, risk and findings.
unfoldable pub score_section : (ℕ → List ℕ) → Setup → List ℕ
score_section name s = score_header ++ texts_of (finding_row name s) (accounts_of s)

-- The accounts that are out of rank with v above, in item order.
unfoldable pub below_of : Setup → ℕ → List ℕ
below_of s v = filtered (is_out_of_rank s v) (accounts_of s)

-- The pairs that are out of rank with v above.
unfoldable pub pair_rows : (ℕ → List ℕ) → Setup → ℕ → List ℕ
pair_rows name s v = texts_of (pair_row name v) (below_of s v)

-- The third section: its header, and a row for each pair of accounts that is out of rank.
unfoldable pub pair_section : (ℕ → List ℕ) → Setup → List ℕ
pair_section name s = pair_header ++ texts_of (pair_rows name s) (accounts_of s)

-- ---- the whole

-- The report of an accepted sheet: three sections, parted by empty lines.
unfoldable pub accepted_report : (ℕ → List ℕ) → Setup → List ℕ
accepted_report name s = list_section name s ++ (10 ∷ (score_section name s ++ (10 ∷ pair_section name s)))

-- The report once the sheet is read: that of an accepted sheet, or the row of a refusal.
unfoldable pub report_after : List ℕ → Reading → List ℕ
report_after sheet r = cond (eqb r.number 0) (accepted_report (name_of sheet) r.setup) (refused_row r.number r.line)

-- The report for the bytes of a sheet.
unfoldable pub report_of : List ℕ → List ℕ
report_of sheet = report_after sheet (read_sheet sheet)
