-- What the definitions behind the report's text are: on each well formed setup, the declared ones, in the paper's order, and nothing twice.
-- Statements only; proofs/Meaning.antt has the theorem.
use Rattle.std.specs.Prelude.{◌≡◌, Bool, true, ℕ, ◌<◌}
use Rattle.vertex_set.specs.Set.{Member, Iff}
use Rattle.vertex_set.specs.Order.{Listed, Rising}
use Rattle.setup.specs.declared.Kind.TheVariants.{Account}
use Rattle.setup.specs.declared.Setup.{Setup}
use Rattle.setup.specs.Setup.{vertex_at, WithoutRecovery}
use Rattle.bases.specs.Base.{Base}
use Rattle.bases.specs.Score.{Score}
use Rattle.findings.specs.Findings.{FindsBackdoor, FindsIneffective, FindsInconsistent}
use Rattle.reference.specs.Bases.{base_of, score_of}
use Rattle.report_text.specs.Rows.{items_of}
use Rattle.report_text.specs.Report.{less_recovery, accounts_of, is_backdoor, is_idle, is_out_of_rank, below_of}

-- By their definitions the sections have a row, or the rows, of each element of these lists, in the order of the list: the first two go over the
-- accounts, and the first over a target's sets and the items of each; the third goes over the accounts, and for each over those below it.
pub record ReportMeaning (s : Setup) : Type 0 where
  -- only accounts have rows, in item order
  pub accounts : (v : ℕ) → Iff (Listed (accounts_of s) v) ((v < s.count) × ((vertex_at s v).kind ≡ Account))
  pub in_order : Rising (accounts_of s)
  -- the sets of a target's rows, which rise by `Before`, and the items of each
  pub base : (loss : Bool) (v : ℕ) → Base loss s s.graph v (base_of loss s s.graph v)
  pub items : (x v : ℕ) → Iff (Listed (items_of x) v) (Member x v × (v < 64))
  pub items_rise : (x : ℕ) → Rising (items_of x)
  -- scores and findings
  pub score : (loss : Bool) (v : ℕ) → Score loss s s.graph v (score_of loss s s.graph v)
  pub less : WithoutRecovery s (less_recovery s)
  pub back : (v : ℕ) → FindsBackdoor s v (is_backdoor s v)
  pub idle : (v : ℕ) → FindsIneffective s v (is_idle s v)
  -- pairs, by the first, which is an account, then by the second
  pub pair : (v w : ℕ) → FindsInconsistent s v w (is_out_of_rank s v w)
  pub below : (v w : ℕ) → Iff (Listed (below_of s v) w) (Listed (accounts_of s) w × (is_out_of_rank s v w ≡ true))
  pub below_rise : (v : ℕ) → Rising (below_of s v)
