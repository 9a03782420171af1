-- The report's text vertex by vertex. A vertex that is no account has no rows.
use Rattle.std.specs.Prelude.{Bool, cond, List, [], ℕ, ◌/◌, ◌%◌, eqb}
use Rattle.setup.specs.declared.Setup.{Setup}
use Rattle.reference.specs.Bases.{base_of}
use Rattle.report_text.specs.Rows.{texts_of}
use Rattle.report_text.specs.Report.{is_account, base_row, finding_row, pair_rows}

-- Is list k a lockout list? The lists have numbers in the order of the report: 2 v is the opening list of vertex v, and 2 v + 1 its lockout list.
abbrev pub slot_loss : ℕ → Bool
slot_loss k = eqb (k % 2) 1

-- The sets of list k; none where its vertex is no account.
unfoldable pub slot_list : Setup → ℕ → List ℕ
slot_list s k = cond (is_account s (k / 2)) (base_of (slot_loss k) s s.graph (k / 2)) []

-- The row of a set of list k.
unfoldable pub slot_row : (ℕ → List ℕ) → Setup → ℕ → ℕ → List ℕ
slot_row name s k = base_row name s (slot_loss k) (k / 2)

-- The rows of list k, one after the other.
unfoldable pub slot_text : (ℕ → List ℕ) → Setup → ℕ → List ℕ
slot_text name s k = texts_of (slot_row name s k) (slot_list s k)

-- The row of the score, risk and findings of vertex v; none where v is no account.
unfoldable pub score_at : (ℕ → List ℕ) → Setup → ℕ → List ℕ
score_at name s v = cond (is_account s v) (finding_row name s v) []

-- The rows of the pairs with vertex v above; none where v is no account.
unfoldable pub pairs_at : (ℕ → List ℕ) → Setup → ℕ → List ℕ
pairs_at name s v = cond (is_account s v) (pair_rows name s v) []
