-- The offered calls on a setup, as data, and the contract of each of them.
use Rattle.std.specs.Prelude.{Bool, List, ℕ}
use Rattle.setup.specs.declared.Setup.{Setup}
use Rattle.questions.specs.Contract.{Contract}
use Rattle.access.specs.Answers.{closure_call, lost_call, way_call}
use Rattle.quick_yes.specs.Answers.{quick_call}
use Rattle.answers.specs.Answers.{bases_call, score_call, marks_call}
use Rattle.forecasts.specs.Answers.{forecast_call}
use Rattle.next_sets.specs.Answers.{next_call}
use Rattle.findings.specs.Answers.{backdoor_call, ineffective_call, inconsistent_call}
use Rattle.cut_sets.specs.Answers.{cuts_call}
use Rattle.attackers.specs.Answers.{attacker_call}
use Rattle.multiset_scores.specs.Answers.{bags_call}
use Rattle.save_format.specs.Call.{save_call}

-- The calls on a setup, each with what is handed in and lent to it.
pub data Request : Type 0 where
  Closure : (set : ℕ) → Request
  Lost : (set : ℕ) → Request
  WayTo : (target set : ℕ) → (vertices colours : List ℕ) → Request
  QuickYes : (target set : ℕ) → Request
  BothBases : (target : ℕ) → (list : List ℕ) → Request
  -- the score, or with a loss the risk
  ScoreOf : (loss : Bool) → (target : ℕ) → Request
  MarksOf : (loss : Bool) → (target : ℕ) → (handed : List ℕ) → Request
  Backdoor : (item : ℕ) → Request
  Idle : (item : ℕ) → Request
  OutOfRank : (above below : ℕ) → Request
  ForecastOf : (target : ℕ) → Request
  Cuts : (target : ℕ) → (list : List ℕ) → Request
  Attackers : (target : ℕ) → (kinds : List ℕ) → Request
  NextSet : (target last : ℕ) → Request
  Bags : (target : ℕ) → (places lengths : List ℕ) → Request
  -- the setup's sheet, under the names of this one
  Save : (sheet out : List ℕ) → Request

-- The contract of each of them.
abbrev pub contract_of : Request → Setup → Contract
contract_of (Closure set) s = closure_call s set
contract_of (Lost set) s = lost_call s set
contract_of (WayTo target set vertices colours) s = way_call s target set vertices colours
contract_of (QuickYes target set) s = quick_call s target set
contract_of (BothBases target list) s = bases_call s target list
contract_of (ScoreOf loss target) s = score_call loss s target
contract_of (MarksOf loss target handed) s = marks_call loss s target handed
contract_of (Backdoor item) s = backdoor_call s item
contract_of (Idle item) s = ineffective_call s item
contract_of (OutOfRank above below) s = inconsistent_call s above below
contract_of (ForecastOf target) s = forecast_call s target
contract_of (Cuts target list) s = cuts_call s target list
contract_of (Attackers target kinds) s = attacker_call s target kinds
contract_of (NextSet target last) s = next_call s target last
contract_of (Bags target places lengths) s = bags_call s target places lengths
contract_of (Save sheet out) s = save_call sheet s out
