-- Inner: what the report's rows say of each vertex.
use Rattle.std.specs.Prelude.{◌≡◌, true, false, List, ℕ, ◌≤◌, ◌<◌, length, get_or}
use Rattle.vertex_set.specs.Set.{Member, Iff}
use Rattle.scores.specs.Inner.Lists.{security_at, recoverability_at}
use Rattle.setup.specs.declared.Setup.{Setup}
use Rattle.setup.specs.Setup.{ChosenSet}
use Rattle.formed.specs.WellFormed.{WellFormed}
use Rattle.sheet_format.specs.Text.{lines_of}
use Rattle.derivations.specs.Both.{rule_of}
use Rattle.bases.specs.Inner.Readers.{Values}
use Rattle.reference.specs.Bases.{score_of}
use Rattle.sheet_format.specs.Names.{has_item, name_of}
use Rattle.report_text.specs.Report.{is_account, is_backdoor, is_idle, is_out_of_rank}
use Rattle.report_rows.specs.Inner.Writing.{NamePlace}
use Rattle.report_scores.specs.Inner.Scores.{BaseTable}
use Rattle.report_facts.specs.declared.Facts.{Facts}

-- The sheet is accepted, and has a line with a short name for each vertex of the setup.
pub record HasNames (sheet : List ℕ) (s : Setup) : Type 0 where
  pub items : (v : ℕ) → v < s.count → has_item sheet v ≡ true
  pub lines : s.count < length (lines_of sheet)
  pub short : (v : ℕ) → v < s.count → length (name_of sheet v) ≤ 16

-- The facts of the setup s, whose names stand in the sheet.
pub record FactsOf (sheet : List ℕ) (s : Setup) (f : Facts) : Type 0 where
  pub formed : WellFormed s
  pub is_count : f.count ≡ s.count
  pub accounts : (v : ℕ) → v < s.count → Iff (Member f.accounts.0 v) (is_account s v ≡ true)
  pub initial : ChosenSet false s f.initial.0
  pub losable : ChosenSet true s f.losable.0
  pub starts : Values false s f.starts
  pub losses : Values true s f.losses
  pub scores : (v : ℕ) → v < s.count → security_at f.scores v ≡ score_of false s s.graph v
  pub risks : (v : ℕ) → v < s.count → recoverability_at f.risks v ≡ score_of true s s.graph v
  pub back : (v : ℕ) → v < s.count → Iff (Member f.back.0 v) (is_backdoor s v ≡ true)
  pub idle : (v : ℕ) → v < s.count → Iff (Member f.idle.0 v) (is_idle s v ≡ true)
  pub pairs : (v w : ℕ) → v < s.count → w < s.count → Iff (Member (get_or f.below v 0) w) ((is_account s w ≡ true) × (is_out_of_rank s v w ≡ true))
  pub within : (v w : ℕ) → v < s.count → Member (get_or f.below v 0) w → w < s.count
  pub names : (v : ℕ) → v < s.count → NamePlace sheet f.from f.to v
  pub short : (v : ℕ) → v < s.count → length (name_of sheet v) ≤ 16

-- The tables of bases with recovery.
pub record TablesOf (s : Setup) (f : Facts) (opening lockout : List ℕ) : Type 0 where
  pub opens : BaseTable (rule_of false s.graph) f.initial.0 opening
  pub locks : BaseTable (rule_of true s.graph) f.losable.0 lockout
